use Rattle.std.proofs.Common.{ℕ, Option, option_map, option_and_then, slice_get, sym, ap, ◌∙◌}
use Rattle.sp_formula.specs.FormulaView.{formula_of}
use Rattle.sp_spec.specs.Guarded.{Guarded}
use Rattle.sp_system.specs.SystemView.{system_of}
use Rattle.sp_moves_formula.specs.Parts.{disjuncts, by_parts}
use Rattle.sp_moves_formula.proofs.Parts.{parts_at}
use Rattle.sp_moves_formula.proofs.Places.{none_there, is_place}
use Rattle.sp_moves_formula.proofs.or.or_cases.Goals as goal

pub returns-in_default : goal.returns-in_default
returns-in_default c =
    let s = system_of c.args.system.now in
    let gone = none_there formula_of c.args.system.now.formulas.items c.args.place (sym c.formula_place.ensures ∙ c.in_default.is) in
    sym (parts_at s c.args.place ∙ ap (λ (o : Option Guarded). option_map (by_parts s c.args.place 1) (option_and_then disjuncts o)) gone)

pub returns : goal.returns
returns c =
    let s = system_of c.args.system.now in
    let is = is_place c.args.place c.in-Some.position (slice_get c.args.system.now.formulas.items c.args.place) (sym c.formula_place.ensures ∙ c.in-Some.is) in
    c.in_ok-made.ensures
    ∙ ap (λ (k : ℕ). option_map (by_parts s k 1) (option_and_then disjuncts (slice_get s.formulas k))) is
    ∙ sym (parts_at s c.args.place)

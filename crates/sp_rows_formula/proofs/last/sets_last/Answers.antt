use Rattle.std.proofs.Common.{◌≡◌, ◌<◌, ℕ, List, Option, Some, subst, option_and_then, option_map, map, refl, sym, ap, ◌∙◌, length}
use Rattle.sp_spec_system.specs.System as spec
use Rattle.sp_formula.specs.FormulaView.{formula_of}
use Rattle.sp_formula.specs.declared.formula.Formula.{Formula}
use Rattle.sp_system.specs.SystemView.{system_of}
use Rattle.sp_spec_formula.specs.Last as rows
use Rattle.sp_rows_formula.specs.declared.last.Ending as memory
use Rattle.sp_system.specs.Reduced.{Reduced}
use Rattle.sp_rows_formula.specs.LastView.{ending, ended_at}
use Rattle.sp_rows_formula.specs.RowsView.{position_of}
use Rattle.sp_rows_formula.proofs.Endings.{sets_last-there}
use Rattle.sp_rows_formula.proofs.Searches.{below}
use Rattle.sp_rows_formula.proofs.last.sets_last.Goals as goal

abbrev there : Option (ℕ × memory.Ending) → Option (ℕ × rows.Ending)
there o = option_map (λ p. (p.0, ending p.1)) o

abbrev row : spec.System → Option (ℕ × rows.Ending) → Option spec.System
row s = option_and_then (λ p. ended_at s p.0 p.1)

abbrev found : spec.System → Option (ℕ × memory.Ending) → Option spec.System
found s o = row s (there o)

-- what is done with the formula that is found
said : (s : spec.System) (o : Option (ℕ × memory.Ending)) (k : ℕ) (e d : memory.Ending) → there o ≡ position_of (rows.ending_of s.last) s.formulas → o ≡ Some (k, e) → e ≡ d
    → rows.sets_last s ≡ ended_at s k (ending d)
said s o k e d first is same =
    sets_last-there s ∙ ap (row s) (sym first) ∙ ap (found s) is ∙ ap (λ (x : memory.Ending). ended_at s k (ending x)) same

stands : (known : Option ℕ) (fs : List Formula) (o : Option (ℕ × memory.Ending)) (k : ℕ) (e : memory.Ending) → there o ≡ position_of (rows.ending_of known) (map formula_of fs) → o ≡ Some (k, e)
    → k < length fs
stands known fs o k e first is = below (rows.ending_of known) fs k (ending e) (sym first ∙ ap there is)

pub returns-in_default : goal.returns-in_default
returns-in_default c =
    let s = system_of c.args.system.now in
    (sets_last-there s ∙ ap (row s) (sym c.first_ending.ensures) ∙ ap (found s) c.in_default.is, refl)

pub ended-requires : goal.ended-requires
ended-requires c = stands c.args.system.now.last c.args.system.now.formulas.items _ c.in-Some.position c.in-Some.ending c.first_ending.ensures c.in-Some.is

pub put_before-requires : goal.put_before-requires
put_before-requires c = stands c.args.system.now.last c.args.system.now.formulas.items _ c.in-Some.position c.in-Some.ending c.first_ending.ensures c.in-Some.is

pub returns-in_ok-done-in-IsLast : goal.returns-in_ok-done-in-IsLast
returns-in_ok-done-in-IsLast c =
    let s = system_of c.args.system.now in
    subst (Reduced c.in_ok-done-in-IsLast.done s (system_of c.ended.new.system)) (sym (said s _ c.in-Some.position c.in-Some.ending _ c.first_ending.ensures c.in-Some.is c.in-IsLast.is))
    c.in_ok-done-in-IsLast.ensures

pub returns-in_ok-put_before-in-BeforeLast : goal.returns-in_ok-put_before-in-BeforeLast
returns-in_ok-put_before-in-BeforeLast c =
    let s = system_of c.args.system.now in
    said s _ c.in-Some.position c.in-Some.ending _ c.first_ending.ensures c.in-Some.is c.in-BeforeLast.is ∙ c.in_ok-put_before-in-BeforeLast.ensures

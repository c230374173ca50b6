use Rattle.std.proofs.Common.{ℕ, List, Option, Some, option_map, map, refl, sym, ap, ◌∙◌}
use Rattle.std.specs.Global.{Vec}
use Rattle.sp_spec.specs.Guarded.{Guarded}
use Rattle.sp_spec_system.specs.System as spec
use Rattle.sp_formula.specs.declared.formula.Formula.{Formula}
use Rattle.sp_formula.specs.FormulaView.{formula_of}
use Rattle.sp_system.specs.SystemView.{system_of}
use Rattle.sp_system.specs.SpendView.{spending_at}
use Rattle.sp_spec_formula.specs.Split as rows
use Rattle.sp_rows_formula.specs.RowsView.{picked_of}
use Rattle.sp_rows_formula.proofs.Positions.{split-there}
use Rattle.sp_rows_formula.proofs.Searches.{below}
use Rattle.sp_rows_formula.proofs.split.split.Goals as goal

abbrev row : spec.System → Option (ℕ × List Guarded) → Option spec.System
row s = option_map (λ p. spending_at s p.0 p.1)

abbrev found : spec.System → Option (ℕ × Vec Formula) → Option spec.System
found s o = row s (option_map picked_of o)

pub returns-in_default : goal.returns-in_default
returns-in_default c =
    let s = system_of c.args.system.now in
    (split-there s ∙ ap (row s) (sym c.in_ok-position.ensures) ∙ ap (found s) c.in_default.is, refl)

pub spend_for-requires : goal.spend_for-requires
spend_for-requires c =
    below rows.split_of c.args.system.now.formulas.items c.in-Some.position (map formula_of c.in-Some.parts.items)
    (sym c.in_ok-position.ensures ∙ ap (option_map picked_of) c.in-Some.is)

pub returns : goal.returns
returns c =
    let s = system_of c.args.system.now in
    split-there s ∙ ap (row s) (sym c.in_ok-position.ensures) ∙ ap (found s) c.in-Some.is ∙ ap Some (sym c.in_ok-spend_for.ensures)

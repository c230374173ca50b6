use Rattle.std.proofs.Common.{List, map, ap, ap₂, ◌∙◌}
use Rattle.sp_spec.specs.Guarded.{Atom, Binder, every}
use Rattle.sp_formula.specs.FormulaView.{binder_of, formula_of}
use Rattle.sp_formula.proofs.Formulas.{every_shown}
use Rattle.sp_rows_formula.proofs.opening.Values.universal.Goals as goal

pub returns : goal.returns
returns c =
    every_shown c.in_ok-binders.binders c.in_ok-guard.guard c.args.body
    ∙ ap₂ (λ (bs : List Binder) (atoms : List Atom). every bs atoms (formula_of c.args.body.value)) (ap (map binder_of) (c.in_ok-binders.ensures.items ∙ c.as_slice.ensures.value)) c.in_ok-guard.ensures

use Rattle.std.proofs.Common.{map, sym, ap, ◌∙◌}
use Rattle.sp_formula.specs.FormulaView.{formula_of}
use Rattle.sp_formula.specs.declared.formula.Formula.{Formula}
use Rattle.sp_formula.proofs.Formulas.{all_shown, one_shown}
use Rattle.sp_moves.specs.Times.{formula_has}
use Rattle.sp_moves.proofs.Occurring.{one_of_listed}
use Rattle.sp_moves.proofs.times.+formula_has.Goals as goal

pub formula_has-returns-in-AllOf : goal.formula_has-returns-in-AllOf
formula_has-returns-in-AllOf t c =
    let given = c.in-AllOf.parts in
    c.formulas_have.ensures ∙ sym (one_of_listed c.args.time (map formula_of given.items))
    ∙ sym (ap (λ (f : Formula). formula_has c.args.time (formula_of f)) c.in-AllOf.is ∙ ap (formula_has c.args.time) (all_shown given))

pub formula_has-returns-in-OneOf : goal.formula_has-returns-in-OneOf
formula_has-returns-in-OneOf t c =
    let given = c.in-OneOf.parts in
    c.formulas_have-in-OneOf.ensures ∙ sym (one_of_listed c.args.time (map formula_of given.items))
    ∙ sym (ap (λ (f : Formula). formula_has c.args.time (formula_of f)) c.in-OneOf.is ∙ ap (formula_has c.args.time) (one_shown given))

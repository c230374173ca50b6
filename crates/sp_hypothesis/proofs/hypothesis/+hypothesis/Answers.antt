use Rattle.std.proofs.Common.{sym, ap, ◌∙◌, map}
use Rattle.sp_spec.specs.Guarded.{all_of, one_of}
use Rattle.sp_formula.specs.FormulaView.{formula_of}
use Rattle.sp_formula.specs.declared.formula.Formula.{Formula}
use Rattle.sp_formula.proofs.Formulas.{all_shown, one_shown}
use Rattle.sp_law_induction.specs.Hypothesis.{hypothesis}
use Rattle.sp_hypothesis.proofs.Parts.{each_hypothesis}
use Rattle.sp_hypothesis.proofs.hypothesis.+hypothesis.Goals as goal

pub hypothesis-returns-in_ok-made-in-AllOf : goal.hypothesis-returns-in_ok-made-in-AllOf
hypothesis-returns-in_ok-made-in-AllOf t c =
    let given = c.in-AllOf.parts in
    let made = c.in_ok-made-in-AllOf.made in
    all_shown made ∙ ap all_of (each_hypothesis (map formula_of given.items) (map formula_of made.items) c.in_ok-made-in-AllOf.ensures)
    ∙ sym (ap (λ (f : Formula). hypothesis (formula_of f)) c.in-AllOf.is ∙ ap hypothesis (all_shown given))

pub hypothesis-returns-in_ok-made-in-OneOf : goal.hypothesis-returns-in_ok-made-in-OneOf
hypothesis-returns-in_ok-made-in-OneOf t c =
    let given = c.in-OneOf.parts in
    let made = c.in_ok-made-in-OneOf.made in
    one_shown made ∙ ap one_of (each_hypothesis (map formula_of given.items) (map formula_of made.items) c.in_ok-made-in-OneOf.ensures)
    ∙ sym (ap (λ (f : Formula). hypothesis (formula_of f)) c.in-OneOf.is ∙ ap hypothesis (one_shown given))

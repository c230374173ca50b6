use Rattle.std.proofs.Common.{ap, ◌∙◌, map, Option, None}
use Rattle.sp_spec.specs.Guarded.{Guarded}
use Rattle.sp_formula.specs.FormulaView.{formula_of}
use Rattle.sp_hypothesis.specs.Broken.{joined, broken_after}
use Rattle.sp_hypothesis.proofs.Broken.{shown_by_induction}
use Rattle.sp_hypothesis.proofs.cases.induction_form.Goals as goal

pub returns : goal.returns
returns c =
    let restrictions = map formula_of c.args.restrictions.now.items in
    c.in_ok-shown.ensures
    ∙ ap (λ (o : Option Guarded). joined o (formula_of c.in_ok-lemma.lemma)) c.in_ok-before.ensures
    ∙ ap (joined (broken_after None restrictions)) c.in_ok-lemma.ensures.cases
    ∙ shown_by_induction restrictions (formula_of c.args.form.now)

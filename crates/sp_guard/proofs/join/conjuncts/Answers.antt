use Rattle.std.proofs.Common.{sym, ap, ◌∙◌, map}
use Rattle.sp_formula.specs.FormulaView.{formula_of}
use Rattle.sp_formula.specs.declared.formula.Formula.{Formula}
use Rattle.sp_formula.proofs.Formulas.{all_shown}
use Rattle.sp_law_guard.specs.GuardedForm.{conjuncts}
use Rattle.sp_spec.proofs.Guardeds.{parts_so}
use Rattle.sp_guard.proofs.join.conjuncts.Goals as goal

pub returns-in-AllOf : goal.returns-in-AllOf
returns-in-AllOf c =
    let parts = c.in-AllOf.parts in
    sym (ap (λ (f : Formula). conjuncts (formula_of f)) c.in-AllOf.is ∙ ap conjuncts (all_shown parts) ∙ parts_so (map formula_of parts.items))

use Rattle.std.proofs.Common.{sym, ap, ◌∙◌, map}
use Rattle.sp_formula.specs.FormulaView.{formula_of}
use Rattle.sp_formula.specs.declared.formula.Formula.{Formula}
use Rattle.sp_formula.proofs.Formulas.{one_shown}
use Rattle.sp_law_guard.specs.GuardedForm.{disjuncts}
use Rattle.sp_spec.proofs.Guardeds.{parts_so}
use Rattle.sp_guard.proofs.join.disjuncts.Goals as goal

pub returns-in-OneOf : goal.returns-in-OneOf
returns-in-OneOf c =
    let parts = c.in-OneOf.parts in
    sym (ap (λ (f : Formula). disjuncts (formula_of f)) c.in-OneOf.is ∙ ap disjuncts (one_shown parts) ∙ parts_so (map formula_of parts.items))

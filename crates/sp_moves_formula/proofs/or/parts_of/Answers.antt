use Rattle.std.proofs.Common.{Some, map, sym, ap, ◌∙◌}
use Rattle.sp_formula.specs.declared.formula.Formula.{Formula}
use Rattle.sp_formula.specs.FormulaView.{formula_of}
use Rattle.sp_formula.proofs.Formulas.{one_shown}
use Rattle.sp_spec.proofs.Guardeds.{parts_so}
use Rattle.sp_moves_formula.specs.Parts.{disjuncts}
use Rattle.sp_moves_formula.proofs.or.parts_of.Goals as goal

pub returns-in-OneOf : goal.returns-in-OneOf
returns-in-OneOf c =
    ap Some (sym (parts_so (map formula_of c.in-OneOf.parts.items)))
    ∙ sym (ap (λ (f : Formula). disjuncts (formula_of f)) c.in-OneOf.is ∙ ap disjuncts (one_shown c.in-OneOf.parts))

use Rattle.std.proofs.Common.{Some, map, sym, ap, ◌∙◌}
use Rattle.sp_term.proofs.Cloned.{cloned}
use Rattle.sp_formula.specs.declared.formula.Formula.{Formula}
use Rattle.sp_formula.specs.FormulaView.{formula_of}
use Rattle.sp_formula.proofs.Formulas.{all_shown}
use Rattle.sp_spec_formula.specs.Split as rows
use Rattle.sp_spec.proofs.Guardeds.{parts_so}
use Rattle.sp_rows_formula.proofs.split.parts_of.Goals as goal

pub returns-in_ok-parts-in-AllOf : goal.returns-in_ok-parts-in-AllOf
returns-in_ok-parts-in-AllOf c =
    ap Some (cloned formula_of c.in-AllOf.formulas.items c.in_ok-parts-in-AllOf.parts.items c.in_ok-parts-in-AllOf.ensures.cases.0 ∙ sym (parts_so (map formula_of c.in-AllOf.formulas.items)))
    ∙ sym (ap (λ (f : Formula). rows.split_of (formula_of f)) c.in-AllOf.is ∙ ap rows.split_of (all_shown c.in-AllOf.formulas))

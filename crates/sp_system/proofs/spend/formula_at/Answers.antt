use Rattle.std.proofs.Common.{[], ◌∷◌, ap, ◌∙◌}
use Rattle.sp_formula.specs.declared.formula.Formula.{Formula}
use Rattle.sp_formula.specs.FormulaView.{formula_of}
use Rattle.sp_system.proofs.Spends.{one_there}
use Rattle.sp_system.proofs.spend.formula_at.Goals as goal

pub returns : goal.returns
returns c =
    ap (λ (f : Formula). formula_of f ∷ []) c.in_ok-formula.ensures
    ∙ one_there c.args.formulas.now.items c.args.position c.index.result.now c.requires c.index.ensures

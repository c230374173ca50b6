use Rattle.std.proofs.Common.{ℕ, List, ap, ap₂, ◌∙◌}
use Rattle.sp_term.proofs.Cloned.{cloned}
use Rattle.sp_spec_system.specs.System.{System, formulas_alone, with_closed}
use Rattle.sp_spec_system.specs.Move.{Case}
use Rattle.sp_formula.specs.FormulaView.{formula_of}
use Rattle.sp_moves_induction.proofs.induction.case_with.Goals as goal

pub returns : goal.returns
returns c =
    let made : List ℕ → System → Case = λ name s. record { name = name; system = with_closed s c.args.closed } in
    ap₂ made c.in_ok-name.ensures.ok
    (c.in_ok-system.ensures ∙ ap formulas_alone (cloned formula_of c.args.formulas.now.items c.in_ok-formulas.formulas.items c.in_ok-formulas.ensures.cases.0))

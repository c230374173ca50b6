use Rattle.std.proofs.Common.{◌==◌, sym, ◌∙◌}
use Rattle.std.proofs.lemmas.Bool.{eqb-true, false_from_ne_true}
use Rattle.sp_formula.specs.FormulaView.{formula_of}
use Rattle.sp_formula.proofs.Fingerprints.{differ}
use Rattle.sp_formula.proofs.shared.SharedFormula.is_same.Goals as goal

pub returns-else-fingerprint-print : goal.returns-else-fingerprint-print
returns-else-fingerprint-print c =
    let a = c.fingerprint.result in
    let b = c.args.print in
    let ne = c.if-fingerprint-print.false in
    false_from_ne_true (a == b) (λ e. ne (eqb-true a b e)) ∙ sym (differ (formula_of c.args.self.now) (formula_of c.args.formula.now) a b c.fingerprint.ensures c.requires ne)

use Rattle.std.proofs.Common.{◌≡◌, drop, map}
use Rattle.sp_spec.specs.Guarded.{guardeds_of}
use Rattle.sp_formula.specs.FormulaView.{formula_of}
use Rattle.sp_formula.specs.Fingerprint.{mixed_formulas}
use Rattle.sp_formula.proofs.fingerprint.+fingerprint.Given as goal

abbrev pub invariant-mixed_formulas-loop-formula : goal.invariant-mixed_formulas-loop-formula
invariant-mixed_formulas-loop-formula l =
    mixed_formulas l.made (guardeds_of (map formula_of (drop l.formula-index l.formula-items))) ≡ mixed_formulas l.fn.print (guardeds_of (map formula_of l.formula-items))

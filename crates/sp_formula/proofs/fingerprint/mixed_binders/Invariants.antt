use Rattle.std.proofs.Common.{◌≡◌, drop, map}
use Rattle.sp_formula.specs.FormulaView.{binder_of}
use Rattle.sp_formula.specs.Fingerprint.{mixed_each, binder_print}
use Rattle.sp_formula.proofs.fingerprint.mixed_binders.Given as goal

abbrev pub invariant-loop-binder : goal.invariant-loop-binder
invariant-loop-binder l = mixed_each binder_print l.made (map binder_of (drop l.binder-index l.binder-items)) ≡ mixed_each binder_print l.fn.print (map binder_of l.binder-items)

use Rattle.std.proofs.Common.{◌≡◌, map}
use Rattle.sp_formula.specs.FormulaView.{formula_of}
use Rattle.sp_law_guard.specs.GuardedForm.{negate}
use Rattle.sp_guard.proofs.negate.+negate.Given as goal

abbrev pub invariant-negate_each-loop-part : goal.invariant-negate_each-loop-part
invariant-negate_each-loop-part l = map formula_of l.made.items ≡ map negate (map formula_of l.yielded)

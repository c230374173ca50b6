use Rattle.std.proofs.Common.{◌≡◌, map}
use Rattle.sp_fact.specs.GroundView.{equation_of}
use Rattle.sp_spec_text.specs.Declared as spec
use Rattle.sp_declared.specs.NumberedView.{numbered_of}
use Rattle.sp_declared.proofs.equations.pair_equations.Given as goal

abbrev pub invariant-loop-equation : goal.invariant-loop-equation
invariant-loop-equation l = map numbered_of l.made.items ≡ map spec.without_number (map equation_of l.yielded)

use Rattle.std.proofs.Common.{◌≡◌, map}
use Rattle.sp_fact.specs.GroundView.{equation_of}
use Rattle.sp_spec_text.specs.Declared as spec
use Rattle.sp_declared.specs.NumberedView.{numbered_of}
use Rattle.sp_declared.specs.Equations.{added_after}
use Rattle.sp_declared.proofs.equations.add_builtins.Given as goal

abbrev pub invariant-loop-equation : goal.invariant-loop-equation
invariant-loop-equation l = map numbered_of l.equations.items ≡ added_after (map numbered_of l.fn.equations.items) (map spec.without_number (map equation_of l.yielded))

use Rattle.std.proofs.Common.{◌≡◌, length, map}
use Rattle.sp_fact.specs.GroundView.{equation_of}
use Rattle.sp_spec_text.specs.Declared as spec
use Rattle.sp_declared.specs.NumberedView.{numbered_of}
use Rattle.sp_declared.specs.Equations.{added_after}
use Rattle.sp_declared.proofs.equations.add_written.Given as goal

abbrev pub invariant-loop-equation : goal.invariant-loop-equation
invariant-loop-equation l =
    record {
      count : l.number ≡ length l.yielded;
      added : map numbered_of l.equations.items ≡ added_after (map numbered_of l.fn.equations.items) (spec.numbered_from 1 (map equation_of l.yielded));
    }

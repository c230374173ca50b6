use Rattle.std.proofs.Common.{◌≡◌, ◌++◌, map, drop}
use Rattle.sp_fact.specs.GroundView.{trace_of}
use Rattle.sp_pose.specs.Required.{required_of}
use Rattle.sp_replay.specs.Held.{required_lines}
use Rattle.sp_replay.proofs.written.write_restrictions.Given as goal

abbrev pub invariant-loop-restriction : goal.invariant-loop-restriction
invariant-loop-restriction l =
    l.out.items ++ required_lines (trace_of l.trace) (map required_of (drop l.restriction-index l.restriction-items))
    ≡ l.fn.out.items ++ required_lines (trace_of l.trace) (map required_of l.restrictions.items)

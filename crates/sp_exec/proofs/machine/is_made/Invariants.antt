use Rattle.std.proofs.Common.{◌≡◌, drop, map}
use Rattle.sp_fact.specs.GroundView.{ground_of}
use Rattle.sp_exec.specs.Next as next
use Rattle.sp_exec.proofs.machine.is_made.Given as goal

abbrev pub invariant-loop-earlier : goal.invariant-loop-earlier
invariant-loop-earlier l =
    next.is_made (ground_of l.term) (map ground_of l.made.items) ≡ next.is_made (ground_of l.term) (map ground_of (drop l.earlier-index l.earlier-items))

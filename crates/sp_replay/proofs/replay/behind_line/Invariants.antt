use Rattle.std.proofs.Common.{◌≡◌, length}
use Rattle.sp_replay.specs.Replay as spec
use Rattle.sp_replay.proofs.replay.behind_line.Given as goal

abbrev pub invariant-loop-rest : goal.invariant-loop-rest
invariant-loop-rest l = spec.behind_line l.rest ≡ spec.behind_line l.text

abbrev pub decreases-loop-rest : goal.decreases-loop-rest
decreases-loop-rest l = length l.rest

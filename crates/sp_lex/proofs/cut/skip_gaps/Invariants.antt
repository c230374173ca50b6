use Rattle.std.proofs.Common.{length}
use Rattle.sp_lex.proofs.Gaps.{Skipped}
use Rattle.sp_lex.proofs.cut.skip_gaps.Given as goal

abbrev pub invariant-loop-after : goal.invariant-loop-after
invariant-loop-after l = Skipped l.text l.rest

abbrev pub decreases-loop-after : goal.decreases-loop-after
decreases-loop-after l = length l.rest

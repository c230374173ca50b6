use Rattle.std.proofs.Common.{length}
use Rattle.sp_transfer.proofs.raising.+raise.Given as goal

abbrev pub decreases-raise : goal.decreases-raise
decreases-raise l = length l.levels.now

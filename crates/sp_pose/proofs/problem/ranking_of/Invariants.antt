use Rattle.std.proofs.Common.{◌≡◌, ◌++◌, drop}
use Rattle.sp_written.specs.Views as view
use Rattle.sp_pose.specs.Ranking.{rankings_in}
use Rattle.sp_pose.proofs.problem.ranking_of.Given as goal

abbrev pub invariant-loop-item : goal.invariant-loop-item
invariant-loop-item l = view.attributes l.ranking.items ++ rankings_in (view.items (drop l.item-index l.items.items)) ≡ rankings_in (view.items l.items.items)

use Rattle.std.proofs.Common.{◌≡◌, ◌++◌, map, drop}
use Rattle.sp_pose.specs.Required.{required_of}
use Rattle.sp_pose.proofs.Items.{required_read}
use Rattle.sp_pose.proofs.problem.restrictions_of.Given as goal

abbrev pub invariant-loop-item : goal.invariant-loop-item
invariant-loop-item l = map required_of l.restrictions.items ++ required_read (drop l.item-index l.items.items) ≡ required_read l.items.items

use Rattle.std.proofs.Common.{◌≡◌, ◌++◌, map, drop}
use Rattle.sp_fact.specs.View.{rule_of}
use Rattle.sp_pose.proofs.Items.{rules_read}
use Rattle.sp_pose.proofs.problem.rules_of.Given as goal

abbrev pub invariant-loop-item : goal.invariant-loop-item
invariant-loop-item l = map rule_of l.rules.items ++ rules_read (drop l.item-index l.items.items) ≡ rules_read l.items.items

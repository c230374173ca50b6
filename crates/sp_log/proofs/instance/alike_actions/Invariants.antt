use Rattle.std.proofs.Common.{◌≡◌, length, map}
use Rattle.std.specs.Slice.Iter.{iter_rest}
use Rattle.sp_fact.specs.View.{action_of}
use Rattle.sp_fact.specs.GroundView.{ground_action}
use Rattle.sp_log.specs.Checking.{alike_actions}
use Rattle.sp_log.proofs.instance.alike_actions.Given as goal

abbrev pub invariant-loop-pattern : goal.invariant-loop-pattern
invariant-loop-pattern l =
    (alike_actions (map action_of l.patterns.items) (map ground_action l.actions.items)
    ≡ alike_actions (map action_of (iter_rest l.pattern-iterator.a)) (map ground_action (iter_rest l.pattern-iterator.b)))
    × (length (iter_rest l.pattern-iterator.a) ≡ length (iter_rest l.pattern-iterator.b))

use Rattle.std.proofs.Common.{◌≡◌, drop, map}
use Rattle.std.specs.List.{list_any}
use Rattle.sp_fact.specs.View.{action_of}
use Rattle.sp_moves_decide.specs.Sought.{action_has}
use Rattle.sp_moves_decide.specs.SoughtView.{sought_of}
use Rattle.sp_moves_decide.proofs.occurring.some_action_has.Given as goal

abbrev pub invariant-loop-action : goal.invariant-loop-action
invariant-loop-action l =
    list_any (action_has (sought_of l.sought)) (map action_of l.actions.items)
    ≡ list_any (action_has (sought_of l.sought)) (map action_of (drop l.action-index l.action-items))

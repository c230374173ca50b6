use Rattle.std.proofs.Common.{◌≡◌, drop, map}
use Rattle.std.specs.List.{list_any}
use Rattle.sp_system.specs.SystemView.{event_of}
use Rattle.sp_moves_decide.specs.Sought.{event_has}
use Rattle.sp_moves_decide.specs.SoughtView.{sought_of}
use Rattle.sp_moves_decide.proofs.occurring.some_event_has.Given as goal

abbrev pub invariant-loop-event : goal.invariant-loop-event
invariant-loop-event l =
    list_any (event_has (sought_of l.sought)) (map event_of l.events.items)
    ≡ list_any (event_has (sought_of l.sought)) (map event_of (drop l.event-index l.event-items))

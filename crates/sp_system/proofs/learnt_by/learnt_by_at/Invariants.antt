use Rattle.std.proofs.Common.{◌≡◌, map, take}
use Rattle.sp_system.specs.WayView.{way_of}
use Rattle.sp_system.specs.SystemView.{event_of}
use Rattle.sp_system.specs.LearntBy.{learnt_by_one}
use Rattle.sp_system.proofs.learnt_by.learnt_by_at.Given as goal

abbrev pub invariant-loop-event : goal.invariant-loop-event
invariant-loop-event l = map event_of l.made.items ≡ map (learnt_by_one l.time (way_of l.way)) (map event_of (take l.event-index l.event-items))

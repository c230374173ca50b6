use Rattle.std.proofs.Common.{◌≡◌, drop, map}
use Rattle.sp_term.specs.Bindings.{bindings}
use Rattle.sp_system.specs.SystemView.{event_of}
use Rattle.sp_system.specs.Stays.{event_stays}
use Rattle.sp_formula.specs.Staying.{all_so}
use Rattle.sp_system.proofs.staying.events_stay.Given as goal

abbrev pub invariant-loop-event : goal.invariant-loop-event
invariant-loop-event l = all_so (event_stays (bindings l.subst) l.small l.large) (map event_of l.events.items) ≡ all_so (event_stays (bindings l.subst) l.small l.large) (map event_of (drop l.event-index l.event-items))

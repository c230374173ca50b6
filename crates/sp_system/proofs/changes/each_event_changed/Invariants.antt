use Rattle.std.proofs.Common.{◌≡◌, take, map}
use Rattle.sp_spec.specs.Substitution.{bound_to}
use Rattle.sp_term.specs.Bindings.{bindings}
use Rattle.sp_spec_system.specs.Equating.{event_changed}
use Rattle.sp_spec.specs.Change.{time_replaced}
use Rattle.sp_system.specs.SystemView.{event_of}
use Rattle.sp_system.proofs.changes.each_event_changed.Given as goal

abbrev pub invariant-loop-event : goal.invariant-loop-event
invariant-loop-event l = map event_of l.made.items ≡ map (event_changed (bound_to (bindings l.subst)) (time_replaced l.small l.large)) (map event_of (take l.event-index l.event-items))

use Rattle.std.proofs.Common.{◌≡◌, map, drop}
use Rattle.sp_system.specs.SystemView.{event_of, system_of}
use Rattle.sp_step.specs.View.{context_of}
use Rattle.sp_spec_proof.specs.Choice.{first_instance}
use Rattle.sp_step.specs.Events.{at_events}
use Rattle.sp_step.proofs.events.first_at_events.Given as goal

abbrev pub invariant-loop-event : goal.invariant-loop-event
invariant-loop-event l =
    first_instance (context_of l.context) (system_of l.system) (at_events l.kinds (map event_of (drop l.event-index l.event-items)))
    ≡ first_instance (context_of l.context) (system_of l.system) (at_events l.kinds (map event_of l.system.events.items))

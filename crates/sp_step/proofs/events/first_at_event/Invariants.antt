use Rattle.std.proofs.Common.{◌≡◌, drop}
use Rattle.sp_spec_system.specs.Picked.{first_some}
use Rattle.sp_system.specs.SystemView.{event_of, system_of}
use Rattle.sp_step.specs.View.{context_of}
use Rattle.sp_step.specs.Events.{first_of}
use Rattle.sp_step.proofs.events.first_at_event.Given as goal

abbrev pub invariant-loop-kind : goal.invariant-loop-kind
invariant-loop-kind l =
    first_some (first_of (context_of l.context) (system_of l.system) (event_of l.event)) (drop l.kind-index l.kinds)
    ≡ first_some (first_of (context_of l.context) (system_of l.system) (event_of l.event)) l.kinds

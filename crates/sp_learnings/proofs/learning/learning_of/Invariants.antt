use Rattle.std.proofs.Common.{◌≡◌, map, drop}
use Rattle.sp_term.specs.View.{view}
use Rattle.sp_system.specs.SystemView.{event_of}
use Rattle.sp_spec_know.specs.Learning as spec
use Rattle.sp_learnings.proofs.learning.learning_of.Given as goal

abbrev pub invariant-loop-event : goal.invariant-loop-event
invariant-loop-event l =
    spec.learning_of (view l.message) (map event_of l.events.items) ≡ spec.learning_of (view l.message) (map event_of (drop l.event-index l.event-items))

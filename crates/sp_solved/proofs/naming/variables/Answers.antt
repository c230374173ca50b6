use Rattle.std.proofs.Common.{[], map, refl}
use Rattle.sp_term.specs.View.{variable_of}
use Rattle.sp_system.specs.SystemView.{event_of}
use Rattle.sp_solved.specs.ListingView.{events_of}
use Rattle.sp_spec_solved.specs.Naming.{once_after, in_step, in_events}
use Rattle.sp_solved.proofs.Stepping.{next}
use Rattle.sp_solved.proofs.naming.variables.Goals as goal

pub loop-event-preserved : goal.loop-event-preserved
loop-event-preserved c =
    next (λ e. in_step (event_of e.now).happening) (λ es. in_events (events_of es)) (λ e es. refl) c.deref-event-items.result.now c.args.events.now.items c.loop-event.event-index c.event-item.result
    (map variable_of c.loop-event.seen.items) (map variable_of c.see_event.new.seen.items) (once_after [] (in_events (events_of c.args.events.now.items)))
    c.deref-event-items.ensures.value c.loop-event-test.true c.event-item.is c.in_ok-see_event.ensures c.loop-event.invariant

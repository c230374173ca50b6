use Rattle.std.proofs.Common.{◌<◌, ◌≡◌, length, get_or, sym, ap, ◌∙◌, Some, None}
use Rattle.std.specs.Prelude.{option_map}
use Rattle.sp_step.specs.View.{context_of, move_of}
use Rattle.sp_system.specs.SystemView.{event_of, system_of}
use Rattle.sp_spec_proof.specs.Choice.{first_instance}
use Rattle.sp_step.specs.Events.{kinds_at}
use Rattle.sp_step.proofs.EventMoves.{first_of_kinds, next_event}
use Rattle.sp_step.proofs.events.first_at_events.Goals as goal

pub returns-in-Some : goal.returns-in-Some
returns-in-Some c =
    let context = context_of c.args.context.now in
    let s = system_of c.args.system.now in
    let moves = kinds_at c.args.kinds.now in
    let all = c.deref-event-items.result.now in
    let e = c.event-item.result in
    let k = c.loop-event.event-index in
    let is : e ≡ get_or all k e = c.event-item.is in
    let below : k < length all = c.loop-event-test.true in
    let here : first_instance context s (moves (event_of e)) ≡ Some (move_of c.in-Some.chosen) =
    sym (first_of_kinds context s (event_of e) c.args.kinds.now) ∙ sym c.in_ok-chosen.ensures ∙ ap (option_map move_of) c.in-Some.is in
    let step = next_event context s moves all k e below is in
    sym (rw here at step) ∙ c.loop-event.invariant

pub loop-event-preserved : goal.loop-event-preserved
loop-event-preserved c =
    let context = context_of c.args.context.now in
    let s = system_of c.args.system.now in
    let moves = kinds_at c.args.kinds.now in
    let all = c.deref-event-items.result.now in
    let e = c.event-item.result in
    let k = c.loop-event.event-index in
    let is : e ≡ get_or all k e = c.event-item.is in
    let below : k < length all = c.loop-event-test.true in
    let here : first_instance context s (moves (event_of e)) ≡ None =
    sym (first_of_kinds context s (event_of e) c.args.kinds.now) ∙ sym c.in_ok-chosen.ensures ∙ ap (option_map move_of) c.in_default.is in
    let step = next_event context s moves all k e below is in
    sym (rw here at step) ∙ c.loop-event.invariant

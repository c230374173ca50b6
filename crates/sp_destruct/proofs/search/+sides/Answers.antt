use Rattle.std.proofs.Common.{None, option_map, sym, ◌≡◌, ◌∙◌, ◌+◌, drop, map, ap}
use Rattle.sp_spec.proofs.Lists.{next_there}
use Rattle.sp_term.specs.View.{view, view_all}
use Rattle.sp_fact.specs.GroundView.{ground_of}
use Rattle.sp_norm.specs.Bounds.{bounds}
use Rattle.sp_destruct.specs.Links.{first_from}
use Rattle.sp_destruct.proofs.Searching.{goes_on, passes}
use Rattle.sp_destruct.proofs.search.+sides.Goals as goal

pub sides_from-loop-place-preserved : goal.sides_from-loop-place-preserved
sides_from-loop-place-preserved t c =
    let learnt = c.args.learnt.now.items in
    let place = c.loop-place.place in
    let message = c.message-item.result in
    let search = goes_on (map ground_of learnt) (view c.in-Some.side.now) (view_all c.in-Some.others.now) (bounds c.args.found.now) in
    let next = next_there c.deref-message-items.result.now learnt place message c.deref-message-items.ensures.value c.loop-place-test.true c.message-item.is in
    let none : search (ground_of message) ≡ None = sym c.in_ok-places.ensures ∙ ap (option_map (λ places. places.items)) c.in_default-2.is in
    c.loop-place.invariant ∙ ap (λ xs. first_from search place (map ground_of xs)) next
    ∙ passes search place (ground_of message) (map ground_of (drop (place + 1) learnt)) none

use Rattle.std.proofs.Common.{◌+◌, drop, map, option_map, ap, sym, ◌∙◌}
use Rattle.std.specs.Global.{Vec}
use Rattle.sp_law_equal.specs.Matching.{value_in}
use Rattle.sp_norm.specs.Bounds.{bounds}
use Rattle.sp_system.specs.SystemView.{event_of, link_of}
use Rattle.sp_log.specs.View.{source_of}
use Rattle.sp_log.specs.declared.log.Source.{Source}
use Rattle.sp_spec_solved.specs.Candidate.{entries_of}
use Rattle.sp_solved.specs.ListingView.{events_of}
use Rattle.sp_spec.proofs.Lists.{next_there}
use Rattle.sp_solved.proofs.Entries.{entry_put}
use Rattle.sp_solved.proofs.suggest.entries.Goals as goal

pub loop-event-preserved : goal.loop-event-preserved
loop-event-preserved c =
    let xs = c.args.events.now.items in
    let links = map link_of c.args.links.now.items in
    let v = value_in (bounds c.in_ok-values.values) in
    let i = c.loop-event.event-index in
    let there = next_there c.deref-event-items.result.now xs i c.event-item.result c.deref-event-items.ensures.value c.loop-event-test.true c.event-item.is in
    entry_put (events_of xs) links v (events_of (drop i xs)) (events_of (drop (i + 1) xs)) (event_of c.event-item.result.now) c.loop-event.made.items c.push.new.self.items c.in_ok-entry.field-0
    (map source_of c.in-Some.sources.items) (entries_of (events_of xs) links v (events_of xs)) (ap events_of there)
    (ap (option_map (λ (ss : Vec Source). map source_of ss.items)) (sym c.in-Some.is) ∙ c.in_ok-sources.ensures) c.in_ok-entry.ensures c.in_ok-push.ensures.items c.loop-event.invariant

use Rattle.std.proofs.Common.{◌||◌, map, sym, ap, ◌∙◌}
use Rattle.std.specs.Global.{Vec}
use Rattle.sp_system.specs.declared.event.Event.{Event}
use Rattle.sp_system.specs.SystemView.{event_of, link_of}
use Rattle.sp_spec_graph.specs.SourceTwice.{used_twice, takes_fr_twice}
use Rattle.sp_rows_graph.proofs.PairSearches.{two_seen}
use Rattle.sp_rows_graph.proofs.source_twice.has_source_twice.Goals as goal

pub returns-then-is_some : goal.returns-then-is_some
returns-then-is_some c =
    let es = map event_of c.args.system.now.events.items in
    let seen = c.is_some.ensures ∙ two_seen link_of (used_twice es) (map link_of c.args.system.now.links.items) c.first_used.result c.first_used.ensures in
    c.if-is_some.true ∙ ap (λ b. b || takes_fr_twice es) (sym c.if-is_some.true ∙ seen)

pub returns-else-is_some : goal.returns-else-is_some
returns-else-is_some c =
    let es = map event_of c.args.system.now.events.items in
    let seen = c.is_some.ensures ∙ two_seen link_of (used_twice es) (map link_of c.args.system.now.links.items) c.first_used.result c.first_used.ensures in
    c.takes_fr_twice.ensures ∙ ap (λ (v : Vec Event). takes_fr_twice (map event_of v.items)) c.deref.ensures ∙ ap (λ b. b || takes_fr_twice es) (sym c.if-is_some.false ∙ seen)

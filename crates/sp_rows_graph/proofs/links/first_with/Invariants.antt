use Rattle.std.proofs.Common.{◌≡◌, map}
use Rattle.sp_system.specs.SystemView.{event_of, link_of}
use Rattle.sp_rows_graph.specs.LinksView.{clash}
use Rattle.sp_rows_graph.proofs.PairSearches.{with_left}
use Rattle.sp_rows_graph.proofs.links.first_with.Given as goal

abbrev pub invariant-loop-position : goal.invariant-loop-position
invariant-loop-position l =
    let test = clash l.how (map event_of l.events.items) in
    with_left link_of test (link_of l.link) l.links.items l.start ≡ with_left link_of test (link_of l.link) l.links.items l.position

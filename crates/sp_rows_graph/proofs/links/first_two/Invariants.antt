use Rattle.std.proofs.Common.{◌≡◌, map}
use Rattle.sp_system.specs.SystemView.{event_of, link_of}
use Rattle.sp_spec_system.specs.Picked.{first_two}
use Rattle.sp_rows_graph.specs.LinksView.{clash}
use Rattle.sp_rows_graph.proofs.PairSearches.{two_left}
use Rattle.sp_rows_graph.proofs.links.first_two.Given as goal

abbrev pub invariant-loop-position : goal.invariant-loop-position
invariant-loop-position l =
    let test = clash l.how (map event_of l.events.items) in
    first_two test (map link_of l.links.items) ≡ two_left link_of test l.links.items l.position

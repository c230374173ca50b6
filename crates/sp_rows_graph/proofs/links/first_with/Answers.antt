use Rattle.std.proofs.Common.{map, sym, ◌∙◌, arith}
use Rattle.sp_system.specs.SystemView.{event_of, link_of}
use Rattle.sp_rows_graph.specs.LinksView.{clash}
use Rattle.sp_rows_graph.proofs.PairSearches.{first_found}
use Rattle.sp_rows_graph.proofs.links.first_with.Goals as goal

pub returns-then-clashes : goal.returns-then-clashes
returns-then-clashes c =
    let test = clash c.args.how (map event_of c.args.events.now.items) in
    sym
    (c.loop-position.invariant
    ∙ first_found link_of test (link_of c.args.link) c.args.links.now.items c.loop-position.position c.index-other.result.now
    (omega (arith, c.loop-position-test.true, c.len-position-end.ensures)) c.index-other.ensures (sym c.clashes.ensures ∙ c.if-clashes.true))

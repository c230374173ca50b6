use Rattle.std.proofs.Common.{sym, ◌∙◌, arith}
use Rattle.sp_system.specs.SystemView.{event_of}
use Rattle.sp_rows_graph.specs.SharedView.{share}
use Rattle.sp_rows_graph.proofs.PairSearches.{first_more}
use Rattle.sp_rows_graph.proofs.shared.sharing.Goals as goal

pub loop-position-preserved : goal.loop-position-preserved
loop-position-preserved c =
    c.loop-position.invariant
    ∙ first_more event_of (share c.args.shared) (event_of c.args.event.now) c.args.events.now.items c.loop-position.position c.index-other.result.now
    (omega (arith, c.loop-position-test.true, c.len-position-end.ensures)) c.index-other.ensures (sym c.share.ensures ∙ c.if-share.false)

use Rattle.std.proofs.Common.{◌≡◌, map, drop}
use Rattle.sp_fact.specs.GroundView.{symbol_of}
use Rattle.sp_system.specs.SystemView.{event_of}
use Rattle.sp_spec_know.specs.SettleLearn as rows
use Rattle.sp_spec_system.specs.Picked.{first_some}
use Rattle.sp_rows_graph.proofs.settle_learn.first_settled.Given as goal

abbrev pub invariant-loop-event : goal.invariant-loop-event
invariant-loop-event l =
    let pick = rows.settled_event (map symbol_of l.symbols.items) in
    first_some pick (map event_of l.events.items) ≡ first_some pick (map event_of (drop l.event-index l.event-items))

use Rattle.std.proofs.Common.{◌≡◌, map, drop}
use Rattle.sp_system.specs.SystemView.{event_of, system_of}
use Rattle.sp_spec_know.specs.FreshFirst as rows
use Rattle.sp_spec_system.specs.Picked as picked
use Rattle.sp_rows_graph.proofs.fresh_first.first_missing.Given as goal

abbrev pub invariant-loop-event : goal.invariant-loop-event
invariant-loop-event l =
    let pick = rows.missing_behind (system_of l.system) in
    picked.first_some pick (map event_of l.system.events.items) ≡ picked.first_some pick (map event_of (drop l.event-index l.event-items))

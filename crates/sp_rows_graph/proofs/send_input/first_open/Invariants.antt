use Rattle.std.proofs.Common.{◌≡◌, map, drop}
use Rattle.sp_system.specs.SystemView.{event_of, link_of}
use Rattle.sp_spec_know.specs.SendInput as rows
use Rattle.sp_spec_system.specs.Picked.{first_some}
use Rattle.sp_rows_graph.proofs.send_input.first_open.Given as goal

abbrev pub invariant-loop-event : goal.invariant-loop-event
invariant-loop-event l =
    let pick = rows.open_input (map link_of l.system.links.items) in
    first_some pick (map event_of l.system.events.items) ≡ first_some pick (map event_of (drop l.event-index l.event-items))

use Rattle.std.proofs.Common.{◌≡◌, map, drop}
use Rattle.sp_system.specs.SystemView.{event_of, system_of}
use Rattle.sp_spec_know.specs.SendLearnt as rows
use Rattle.sp_spec_system.specs.Picked.{first_some}
use Rattle.sp_rows_graph.proofs.send_learnt.first_unlearnt.Given as goal

abbrev pub invariant-loop-event : goal.invariant-loop-event
invariant-loop-event l =
    let pick = rows.unlearnt_sending (system_of l.system) in
    first_some pick (map event_of l.system.events.items) ≡ first_some pick (map event_of (drop l.event-index l.event-items))

use Rattle.std.proofs.Common.{◌≡◌, map, drop}
use Rattle.sp_system.specs.SystemView.{event_of, system_of}
use Rattle.sp_spec_system.specs.Picked.{some_two}
use Rattle.sp_rows_graph.specs.SharedView.{stay_two}
use Rattle.sp_rows_graph.proofs.shared.fails_to_be_one.Given as goal

abbrev pub invariant-loop-position : goal.invariant-loop-position
invariant-loop-position l =
    let test = stay_two l.shared (system_of l.system) in
    some_two test (map event_of l.system.events.items) ≡ some_two test (map event_of (drop l.position l.system.events.items))

use Rattle.std.proofs.Common.{◌≡◌, map, drop}
use Rattle.sp_system.specs.SystemView.{event_of, system_of}
use Rattle.sp_spec_system.specs.Picked.{some_with}
use Rattle.sp_rows_graph.specs.SharedView.{stay_two}
use Rattle.sp_rows_graph.proofs.shared.fails_with.Given as goal

abbrev pub invariant-loop-position : goal.invariant-loop-position
invariant-loop-position l =
    let test = stay_two l.shared (system_of l.system) in
    some_with test (event_of l.event) (map event_of (drop l.start l.system.events.items))
    ≡ some_with test (event_of l.event) (map event_of (drop l.position l.system.events.items))

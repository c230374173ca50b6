use Rattle.std.proofs.Common.{◌≡◌, ◌++◌, map, drop}
use Rattle.sp_system.specs.SystemView.{event_of, system_of}
use Rattle.sp_spec_formula.specs.Action as spec
use Rattle.sp_moves.specs.View.{case_of}
use Rattle.sp_moves_formula.proofs.at_each.at_each.Given as goal

abbrev pub invariant-loop-event : goal.invariant-loop-event
invariant-loop-event l =
    map case_of l.made.items ++ spec.at_each (system_of l.system) l.time (map event_of (drop l.event-index l.event-items))
    ≡ spec.at_each (system_of l.system) l.time (map event_of l.system.events.items)

use Rattle.std.proofs.Common.{◌≡◌, map, take}
use Rattle.sp_formula.specs.FormulaView.{formula_of}
use Rattle.sp_system.specs.SystemView.{event_of}
use Rattle.sp_spec_graph.specs.More.{apart_from}
use Rattle.sp_moves_decide.proofs.more.apart_from_each.Given as goal

abbrev pub invariant-loop-event : goal.invariant-loop-event
invariant-loop-event l = map formula_of l.made.items ≡ map (apart_from l.time) (map event_of (take l.event-index l.event-items))

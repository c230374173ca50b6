use Rattle.std.proofs.Common.{◌≡◌, ◌++◌, map, drop}
use Rattle.sp_formula.specs.FormulaView.{moment_of}
use Rattle.sp_formula.specs.PlaceView.{placed_action}
use Rattle.sp_system.specs.SystemView.{event_of}
use Rattle.sp_rows_formula.specs.MatchesView.{matches}
use Rattle.sp_rows_formula.specs.SlotsView.{slots_of}
use Rattle.sp_rows_formula.proofs.matching.matches.Given as goal

abbrev pub invariant-loop-event : goal.invariant-loop-event
invariant-loop-event l =
    map slots_of l.found.items ++ matches (slots_of l.slots) (placed_action l.action) (moment_of l.moment) (map event_of (drop l.event-index l.event-items))
    ≡ matches (slots_of l.slots) (placed_action l.action) (moment_of l.moment) (map event_of l.events.items)

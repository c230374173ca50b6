use Rattle.std.proofs.Common.{◌≡◌, ◌++◌, map, drop}
use Rattle.sp_fact.specs.View.{action_of}
use Rattle.sp_spec_system.specs.System.{happening_actions}
use Rattle.sp_formula.specs.FormulaView.{moment_of}
use Rattle.sp_system.specs.SystemView.{event_of}
use Rattle.sp_formula.specs.PlaceView.{placed_action}
use Rattle.sp_rows_formula.specs.MatchesView.{matches_at}
use Rattle.sp_rows_formula.specs.SlotsView.{slots_of}
use Rattle.sp_rows_formula.proofs.matching.matches_at.Given as goal

abbrev pub invariant-loop-other : goal.invariant-loop-other
invariant-loop-other l =
    map slots_of l.found.items ++ matches_at (slots_of l.slots) (placed_action l.action) (moment_of l.moment) l.event.time (map action_of (drop l.other-index l.other-items))
    ≡ matches_at (slots_of l.slots) (placed_action l.action) (moment_of l.moment) l.event.time (happening_actions (event_of l.event).happening)

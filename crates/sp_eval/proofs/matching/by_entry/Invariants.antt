use Rattle.std.proofs.Common.{◌≡◌, ◌++◌, map, drop}
use Rattle.sp_law_decide.specs.Deciding as deciding
use Rattle.sp_formula.specs.FormulaView.{moment_of}
use Rattle.sp_formula.specs.PlaceView.{placed_action}
use Rattle.sp_fact.specs.GroundView.{ground_action}
use Rattle.sp_eval.specs.View.{environment_of, environments_of}
use Rattle.sp_eval.proofs.matching.by_entry.Given as goal

abbrev pub invariant-loop-shown : goal.invariant-loop-shown
invariant-loop-shown l =
    environments_of l.found.items ++ deciding.by_entry (placed_action l.action) (moment_of l.time) l.position (map ground_action (drop l.shown-index l.shown-items)) (environment_of l.env)
    ≡ environments_of l.fn.found.items ++ deciding.by_entry (placed_action l.action) (moment_of l.time) l.position (map ground_action l.entry.items) (environment_of l.env)

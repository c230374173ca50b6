use Rattle.std.proofs.Common.{◌≡◌, ◌++◌, map, drop}
use Rattle.sp_formula.specs.FormulaView.{moment_of}
use Rattle.sp_formula.specs.PlaceView.{placed_action}
use Rattle.sp_fact.specs.GroundView.{ground_action}
use Rattle.sp_eval.specs.View.{environment_of, environments_of}
use Rattle.sp_eval.proofs.Traces.{onward}
use Rattle.sp_eval.proofs.matching.by_trace.Given as goal

abbrev pub invariant-loop-position : goal.invariant-loop-position
invariant-loop-position l =
    environments_of l.found.items
    ++ onward (placed_action l.action) (moment_of l.time) l.position (map (λ entry. map ground_action entry.items) (drop l.position l.trace.entries.items)) (environment_of l.env)
    ≡ environments_of l.fn.found.items
    ++ onward (placed_action l.action) (moment_of l.time) 0 (map (λ entry. map ground_action entry.items) l.trace.entries.items) (environment_of l.env)

use Rattle.std.proofs.Common.{◌≡◌, ◌++◌, drop}
use Rattle.sp_law_decide.specs.Deciding as deciding
use Rattle.sp_formula.specs.FormulaView.{moment_of}
use Rattle.sp_formula.specs.PlaceView.{placed_action}
use Rattle.sp_fact.specs.GroundView.{trace_of}
use Rattle.sp_eval.specs.View.{environments_of}
use Rattle.sp_eval.proofs.matching.by_each.Given as goal

abbrev pub invariant-loop-env : goal.invariant-loop-env
invariant-loop-env l =
    environments_of l.found.items ++ deciding.by_each (placed_action l.action) (moment_of l.time) (trace_of l.trace) (environments_of (drop l.env-index l.env-items))
    ≡ deciding.by_each (placed_action l.action) (moment_of l.time) (trace_of l.trace) (environments_of l.envs.items)

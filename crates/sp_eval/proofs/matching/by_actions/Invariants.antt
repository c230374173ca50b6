use Rattle.std.proofs.Common.{◌≡◌, map, drop, [], ◌∷◌}
use Rattle.sp_law_decide.specs.Deciding as deciding
use Rattle.sp_formula.specs.FormulaView.{atom_of}
use Rattle.sp_fact.specs.GroundView.{trace_of}
use Rattle.sp_eval.specs.View.{environment_of, environments_of}
use Rattle.sp_eval.proofs.matching.by_actions.Given as goal

abbrev pub invariant-loop-atom : goal.invariant-loop-atom
invariant-loop-atom l =
    deciding.by_actions (trace_of l.trace) (map atom_of (drop l.atom-index l.atom-items)) (environments_of l.envs.items)
    ≡ deciding.by_actions (trace_of l.trace) (map atom_of l.guard.items) (environment_of l.fn.env ∷ [])

use Rattle.std.proofs.Common.{◌≡◌, drop, map}
use Rattle.sp_law_decide.specs.Deciding as deciding
use Rattle.sp_formula.specs.FormulaView.{binder_of}
use Rattle.sp_eval.specs.View.{environment_of}
use Rattle.sp_eval.proofs.environment.entered.Given as goal

abbrev pub invariant-loop-binder : goal.invariant-loop-binder
invariant-loop-binder l =
    deciding.entered (map binder_of (drop l.binder-index l.binder-items)) (environment_of l.inside)
    ≡ deciding.entered (map binder_of l.binder-items) (environment_of l.outside)

use Rattle.std.proofs.Common.{◌≡◌, map}
use Rattle.sp_law_decide.specs.Deciding as deciding
use Rattle.sp_formula.specs.FormulaView.{atom_of}
use Rattle.sp_eval.specs.View.{environments_of}
use Rattle.sp_eval.proofs.equality.each_completed.Given as goal

abbrev pub invariant-loop-env : goal.invariant-loop-env
invariant-loop-env l = environments_of l.found.items ≡ deciding.each_by_equalities (map atom_of l.guard.items) (environments_of l.yielded)

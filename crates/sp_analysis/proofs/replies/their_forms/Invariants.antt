use Rattle.std.proofs.Common.{◌≡◌, map}
use Rattle.sp_formula.specs.FormulaView.{formula_of}
use Rattle.sp_pose.specs.Required.{Required, required_of}
use Rattle.sp_analysis.proofs.replies.their_forms.Given as goal

abbrev pub invariant-loop-restriction : goal.invariant-loop-restriction
invariant-loop-restriction l = map formula_of l.forms.items ≡ map (λ (q : Required). q.form) (map required_of l.yielded)

-- A trace is equal to itself.
use Rattle.std.proofs.Common.{List, [], ◌∷◌}
use Rattle.sp_spec.specs.Signature.{Equation}
use Rattle.sp_spec.specs.Rule.{Action}
use Rattle.sp_spec.specs.Execution.{Trace}
use Rattle.sp_law_equal.proofs.Chains.{same_action_refl}
use Rattle.sp_law_truth.specs.Same.{SameActions, EqualTraces}

pub actions_itself : (es : List Equation) (actions : List (Action ⊥)) → SameActions es actions actions
actions_itself es [] = tt
actions_itself es (a ∷ actions) = (same_action_refl es a, actions_itself es actions)

pub trace_itself : (es : List Equation) (trace : Trace) → EqualTraces es trace trace
trace_itself es [] = tt
trace_itself es (entry ∷ trace) = (actions_itself es entry, trace_itself es trace)

-- The move that looks for an action's event, by the action that it looks for.
use Rattle.std.proofs.Common.{◌≡◌, ℕ, List, Option, Some, None, option_map, refl}
use Rattle.sp_spec.specs.Term.{Variable}
use Rattle.sp_spec.specs.Rule.{Action}
use Rattle.sp_spec.specs.Guarded.{Guarded, truth, falsity, holds, fails, all_of, one_of, some, every, acts, same, same_time, before, last, free_time, bound_time}
use Rattle.sp_spec_system.specs.System.{System}
use Rattle.sp_spec_system.specs.Formulas.{freed_action}
use Rattle.sp_spec_system.specs.MakingOne.{event_at}
use Rattle.sp_spec_system.specs.Move.{Case}
use Rattle.sp_spec_formula.specs.Action.{action_at_time, action_cases, solving_action}
use Rattle.sp_moves_formula.specs.Sought.{timed, sought}
use Rattle.sp_spec_forms.specs.Forms.{RuleForms}

-- the cases of what is looked for
abbrev pub sought_cases : List RuleForms → System → ℕ × Action Variable → List Case
sought_cases rules s p = action_cases rules s p.0 p.1 (event_at p.0 s.events)

by_time : (rules : List RuleForms) (s : System) (i : ℕ) (o : Option (Action Variable)) → action_at_time rules s i o ≡ option_map (sought_cases rules s) (option_map (timed i) o)
by_time rules s i None = refl
by_time rules s i (Some a) = refl

pub solves : (rules : List RuleForms) (s : System) (f : Guarded) → solving_action rules s (Some f) ≡ option_map (sought_cases rules s) (sought f)
solves rules s truth = refl
solves rules s falsity = refl
solves rules s (holds (acts a (free_time i))) = by_time rules s i (freed_action a)
solves rules s (holds (acts a (bound_time k))) = refl
solves rules s (holds (same t u)) = refl
solves rules s (holds (same_time i j)) = refl
solves rules s (holds (before i j)) = refl
solves rules s (holds (last i)) = refl
solves rules s (fails a) = refl
solves rules s (all_of fs) = refl
solves rules s (one_of fs) = refl
solves rules s (some bs guard f) = refl
solves rules s (every bs guard f) = refl

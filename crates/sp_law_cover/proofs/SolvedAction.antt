-- The parts of a solved action: its atom and its time in the formula, and its terms.
use Rattle.std.proofs.Common.{◌≡◌, ℕ, List, Option, Some, None, refl, slice_get}
use Rattle.sp_spec.specs.Term.{Variable}
use Rattle.sp_spec.specs.Rule.{Action}
use Rattle.sp_spec.specs.Guarded.{Place, Guarded, truth, falsity, holds, fails, all_of, one_of, some, every, acts, same, same_time, before, last, free_time, bound_time}
use Rattle.sp_spec_forms.specs.Forms.{RuleForms}
use Rattle.sp_spec_system.specs.System.{System}
use Rattle.sp_spec_system.specs.Formulas.{freed_action}
use Rattle.sp_spec_system.specs.MakingOne.{event_at}
use Rattle.sp_spec_system.specs.Move.{Case}
use Rattle.sp_spec_formula.specs.Action.{action_cases, action_at_time, solving_action}

-- a solved action: the formula, its time and its terms
pub record SolvesAction (rules : List RuleForms) (s : System) (f : Guarded) (cs : List Case) : Type 0 where
  pub atom : Action Place
  pub time : ℕ
  pub terms : Action Variable
  pub is_action : f ≡ holds (acts atom (free_time time))
  pub freed : freed_action atom ≡ Some terms
  pub cases : cs ≡ action_cases rules s time terms (event_at time s.events)

solving : (rules : List RuleForms) (s : System) (f : Guarded) (cs : List Case) → solving_action rules s (Some f) ≡ Some cs → SolvesAction rules s f cs
solving rules s (holds (acts a (free_time i))) cs e = at (freed_action a) refl e
  where
    at : (o : Option (Action Variable)) → freed_action a ≡ o → action_at_time rules s i o ≡ Some cs → SolvesAction rules s (holds (acts a (free_time i))) cs
    at None k l = absurd cc
    at (Some t) k l = record { atom = a; time = i; terms = t; is_action = refl; freed = k; cases = let g : cs ≡ action_cases rules s i t (event_at i s.events) = cc in g }
solving rules s (holds (acts a (bound_time i))) cs e = absurd cc
solving rules s (holds (same t u)) cs e = absurd cc
solving rules s (holds (same_time i j)) cs e = absurd cc
solving rules s (holds (before i j)) cs e = absurd cc
solving rules s (holds (last i)) cs e = absurd cc
solving rules s (fails a) cs e = absurd cc
solving rules s truth cs e = absurd cc
solving rules s falsity cs e = absurd cc
solving rules s (all_of fs) cs e = absurd cc
solving rules s (one_of fs) cs e = absurd cc
solving rules s (some bs guard f) cs e = absurd cc
solving rules s (every bs guard f) cs e = absurd cc

pub at_place : (rules : List RuleForms) (s : System) (k : ℕ) (cs : List Case) → solving_action rules s (slice_get s.formulas k) ≡ Some cs → (f : Guarded) × (slice_get s.formulas k ≡ Some f) × SolvesAction rules s f cs
at_place rules s k cs e = at (slice_get s.formulas k) refl e
  where
    at : (o : Option Guarded) → slice_get s.formulas k ≡ o → solving_action rules s o ≡ Some cs → (f : Guarded) × (slice_get s.formulas k ≡ Some f) × SolvesAction rules s f cs
    at None h l = absurd cc
    at (Some f) h l = (f, h, solving rules s f cs l)

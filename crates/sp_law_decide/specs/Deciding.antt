-- How truth over a trace is decided. The values that a quantifier's guard can make true are found in the trace: the actions of the guard
-- are compared with those of the trace, and the equalities of the guard give what is left. Source: CSF 2012, "Guarded trace properties".
use Rattle.std.specs.Prelude.{ℕ, zero, suc, Bool, true, false, ◌&&◌, ◌||◌, ◌==◌, nat_lt, not, if◌then◌else◌, List, [], ◌∷◌, ◌++◌, length, Option, Some, None, is_some, unwrap_or, option_and_then}
use Rattle.std.specs.Str.{bytes_eq}
use Rattle.sp_spec.specs.Term.{Sort, Term, var, constant, Terms, Ground, Grounds, each_variable}
use Rattle.sp_spec.specs.Same.{same_term, same_terms}
use Rattle.sp_spec.specs.Rule.{Action}
use Rattle.sp_spec.specs.Execution.{Trace}
use Rattle.sp_spec.specs.Guarded.{Place, free, bound, Time, free_time, bound_time, Binder, message, time, Atom, acts, same, same_time, before, last, Guarded, Guardeds, truth, falsity, holds, fails, all_of, one_of, some, every, no_more, and_then, Assignment, term_in, action_in, time_in}
use Rattle.sp_spec.specs.Slots.{Slot, slot, value_at, filled_at}
use Rattle.sp_spec.specs.Matching.{matched_by, matched_all_by}
use Rattle.sp_law_equal.specs.Matching.{has_sort}

-- the slots of messages and those of times, the innermost binder first
pub record Environment : Type 0 where
  pub messages : List (Slot Sort Ground)
  pub times : List (Slot (Unit {0}) ℕ)

abbrev pub environment : List (Slot Sort Ground) → List (Slot (Unit {0}) ℕ) → Environment
environment messages times = record { messages = messages; times = times }

-- what stands for what nothing binds, and for what has no value
abbrev pub nothing : Ground
nothing = constant []

abbrev pub value_or : {K A : Type 0} → A → List (Slot K A) → ℕ → A
value_or d slots k = unwrap_or (value_at slots k) d

abbrev pub assignment_of : Environment → Assignment
assignment_of env = record {
  terms = λ x. nothing;
  times = λ i. 0;
  bound_terms = value_or nothing env.messages;
  bound_times = value_or 0 env.times;
}

-- a place beyond the binders has nothing to wait for
abbrev pub is_filled : {K A : Type 0} → List (Slot K A) → ℕ → Bool
is_filled [] k = true
is_filled (s ∷ slots) zero = is_some s.value
is_filled (s ∷ slots) (suc k) = is_filled slots k

abbrev pub with_message : ℕ → Ground → List (Slot Sort Ground) → Option (List (Slot Sort Ground))
with_message k t slots = filled_at same_term has_sort (same_term nothing t) k t slots

abbrev pub with_position : ℕ → ℕ → List (Slot (Unit {0}) ℕ) → Option (List (Slot (Unit {0}) ℕ))
with_position k p slots = filled_at (λ i j. i == j) (λ u j. true) (0 == p) k p slots

-- the values that make a place, a pattern and a time this term and this position
abbrev pub matched_place : Place → Ground → List (Slot Sort Ground) → Option (List (Slot Sort Ground))
matched_place (free x) t slots = if same_term nothing t then Some slots else None
matched_place (bound k) t slots = with_message k t slots

abbrev pub matched : Term Place → Ground → List (Slot Sort Ground) → Option (List (Slot Sort Ground))
matched p t slots = matched_by matched_place p t slots

abbrev pub matched_all : Terms Place → Grounds → List (Slot Sort Ground) → Option (List (Slot Sort Ground))
matched_all ps ts slots = matched_all_by matched_place ps ts slots

abbrev pub matched_time : Time → ℕ → List (Slot (Unit {0}) ℕ) → Option (List (Slot (Unit {0}) ℕ))
matched_time (free_time i) p slots = if 0 == p then Some slots else None
matched_time (bound_time k) p slots = with_position k p slots

-- the environments in which the guard's action is one of the trace
abbrev pub both_matched : Option (List (Slot Sort Ground)) → Option (List (Slot (Unit {0}) ℕ)) → List Environment
both_matched (Some messages) (Some times) = environment messages times ∷ []
both_matched (Some messages) None = []
both_matched None times = []

abbrev pub by_action : Action Place → Time → ℕ → Action ⊥ → Environment → List Environment
by_action a i p shown env = if bytes_eq a.symbol shown.symbol then both_matched (matched_all a.args shown.args env.messages) (matched_time i p env.times) else []

abbrev pub by_entry : Action Place → Time → ℕ → List (Action ⊥) → Environment → List Environment
by_entry a i p [] env = []
by_entry a i p (shown ∷ entry) env = by_action a i p shown env ++ by_entry a i p entry env

-- the oldest entry first
abbrev pub by_trace : Action Place → Time → Trace → Environment → List Environment
by_trace a i [] env = []
by_trace a i (entry ∷ past) env = by_trace a i past env ++ by_entry a i (length past) entry env

abbrev pub by_each : Action Place → Time → Trace → List Environment → List Environment
by_each a i trace [] = []
by_each a i trace (env ∷ envs) = by_trace a i trace env ++ by_each a i trace envs

abbrev pub by_actions : Trace → List Atom → List Environment → List Environment
by_actions trace [] envs = envs
by_actions trace (acts a i ∷ atoms) envs = by_actions trace atoms (by_each a i trace envs)
by_actions trace (a ∷ atoms) envs = by_actions trace atoms envs

-- each place of the term has a value
abbrev pub place_known : List (Slot Sort Ground) → Place → Bool
place_known slots (free x) = true
place_known slots (bound k) = is_filled slots k

abbrev pub is_known : List (Slot Sort Ground) → Term Place → Bool
is_known slots t = each_variable (place_known slots) t

abbrev pub term_value : List (Slot Sort Ground) → Term Place → Ground
term_value slots t = term_in (assignment_of (environment slots [])) t

-- an equality gives a bound message its value, where the other side is known
abbrev pub given_to : Term Place → Term Place → List (Slot Sort Ground) → Option (List (Slot Sort Ground))
given_to (var (bound k)) u slots = if is_known slots u then with_message k (term_value slots u) slots else Some slots
given_to t u slots = Some slots

abbrev pub by_atom : Atom → List (Slot Sort Ground) → Option (List (Slot Sort Ground))
by_atom (same t u) slots = option_and_then (given_to u t) (given_to t u slots)
by_atom a slots = Some slots

abbrev pub by_equalities : List Atom → List (Slot Sort Ground) → Option (List (Slot Sort Ground))
by_equalities [] slots = Some slots
by_equalities (a ∷ atoms) slots = option_and_then (by_equalities atoms) (by_atom a slots)

abbrev pub with_times : List (Slot (Unit {0}) ℕ) → Option (List (Slot Sort Ground)) → List Environment
with_times times None = []
with_times times (Some messages) = environment messages times ∷ []

abbrev pub each_by_equalities : List Atom → List Environment → List Environment
each_by_equalities guard [] = []
each_by_equalities guard (env ∷ envs) = with_times env.times (by_equalities guard env.messages) ++ each_by_equalities guard envs

-- slots for the binders of a quantifier
abbrev pub entered : List Binder → Environment → Environment
entered [] env = env
entered (message sort ∷ bs) env = entered bs (environment (slot sort None ∷ env.messages) env.times)
entered (time ∷ bs) env = entered bs (environment env.messages (slot tt None ∷ env.times))

-- the environments that may make the guard true
abbrev pub candidates : Trace → List Binder → List Atom → Environment → List Environment
candidates trace bs guard env = each_by_equalities guard (by_actions trace guard (entered bs env ∷ []))

-- atoms under values of all that is bound
abbrev pub same_action : Action ⊥ → Action ⊥ → Bool
same_action a b = bytes_eq a.symbol b.symbol && same_terms a.args b.args

abbrev pub is_among : Action ⊥ → List (Action ⊥) → Bool
is_among a [] = false
is_among a (b ∷ entry) = same_action a b || is_among a entry

abbrev pub is_at : Trace → ℕ → Action ⊥ → Bool
is_at [] p a = false
is_at (entry ∷ past) p a = if p == length past then is_among a entry else is_at past p a

abbrev pub atom_true : Trace → Assignment → Atom → Bool
atom_true trace m (acts a i) = is_at trace (time_in m i) (action_in m a)
atom_true trace m (same t u) = same_term (term_in m t) (term_in m u)
atom_true trace m (same_time i j) = time_in m i == time_in m j
atom_true trace m (before i j) = nat_lt (time_in m i) (time_in m j)
atom_true trace m (last i) = suc (time_in m i) == length trace

abbrev pub atoms_true : Trace → Assignment → List Atom → Bool
atoms_true trace m [] = true
atoms_true trace m (a ∷ atoms) = atom_true trace m a && atoms_true trace m atoms

abbrev pub for_one : (Environment → Bool) → List Environment → Bool
for_one test [] = false
for_one test (env ∷ envs) = test env || for_one test envs

abbrev pub for_each : (Environment → Bool) → List Environment → Bool
for_each test [] = true
for_each test (env ∷ envs) = test env && for_each test envs

abbrev mutual
  pub decided : Trace → Environment → Guarded → Bool
  decided trace env truth = true
  decided trace env falsity = false
  decided trace env (holds a) = atom_true trace (assignment_of env) a
  decided trace env (fails a) = not (atom_true trace (assignment_of env) a)
  decided trace env (all_of fs) = each_decided trace env fs
  decided trace env (one_of fs) = one_decided trace env fs
  decided trace env (some bs guard f) = for_one (λ c. atoms_true trace (assignment_of c) guard && decided trace c f) (candidates trace bs guard env)
  decided trace env (every bs guard f) = for_each (λ c. not (atoms_true trace (assignment_of c) guard) || decided trace c f) (candidates trace bs guard env)

  pub each_decided : Trace → Environment → Guardeds → Bool
  each_decided trace env no_more = true
  each_decided trace env (and_then f fs) = decided trace env f && each_decided trace env fs

  pub one_decided : Trace → Environment → Guardeds → Bool
  one_decided trace env no_more = false
  one_decided trace env (and_then f fs) = decided trace env f || one_decided trace env fs

-- where nothing is bound
abbrev pub empty : Environment
empty = environment [] []

-- Truth of a written formula over a trace. Source: CSF 2012, "Security properties"; Schmidt's thesis, chapter 3. It is the truth of
-- classical first-order logic: messages range over all ground terms of the sort, times over the positions of the trace.
use Rattle.std.specs.Prelude.{◌≡◌, ◌⊎◌, ◌<◌, ℕ, List, [], ◌∷◌, length, if◌then◌else◌}
use Rattle.std.specs.Str.{bytes_eq}
use Rattle.sp_spec.specs.Lists.{Member, AtPosition, Classically}
use Rattle.sp_spec.specs.Term.{Msg, Term, var, constant, name, app, Ground, valued}
use Rattle.sp_spec.specs.Signature.{Equation, Signature, IsValue}
use Rattle.sp_spec.specs.Equal.{Equal}
use Rattle.sp_spec.specs.Rule.{Action, action_at, SameAction}
use Rattle.sp_spec.specs.Formula.{Mark, bare, of_sort, of_time, Written, Formula, truth, falsity, happens, equals, precedes, not_so, both, either, implies, for_all, for_some}
use Rattle.sp_spec.specs.Execution.{Trace}

-- the entry at that position has an action that is equal to this one
abbrev pub Acts : List Equation → Trace → ℕ → Action ⊥ → Type 0
Acts es trace p action =
    (entry : List (Action ⊥)) × AtPosition trace p entry × (shown : Action ⊥) × Member shown entry × SameAction es action shown

pub data Value : Type 0 where
  message : Ground → Value
  position : ℕ → Value

-- what the binders that a place is in the reach of stand for, the innermost first
abbrev pub Environment : Type 0
Environment = List (List ℕ × Value)

-- (a name that no binder has is no part of a closed formula)
abbrev pub value_of : Environment → List ℕ → Value
value_of [] x = message (constant [])
value_of (b ∷ env) x = if bytes_eq b.0 x then b.1 else value_of env x

abbrev pub message_of : Value → Ground
message_of (message t) = t
message_of (position p) = constant []

abbrev pub ground_in : Environment → Term Written → Ground
ground_in env t = valued (λ x. message_of (value_of env x.name)) t

-- a name alone may stand for a time
abbrev pub value_in : Environment → Term Written → Value
value_in env (var x) = value_of env x.name
value_in env (constant c) = message (constant c)
value_in env (name n) = message (name n)
value_in env (app f ts) = message (ground_in env (app f ts))

abbrev pub IsSame : List Equation → Value → Value → Type 0
IsSame es (message t) (message u) = Equal es t u
IsSame es (message t) (position q) = ⊥
IsSame es (position p) (message u) = ⊥
IsSame es (position p) (position q) = p ≡ q

abbrev pub IsEarlier : Value → Value → Type 0
IsEarlier (position p) (position q) = p < q
IsEarlier (position p) (message u) = ⊥
IsEarlier (message t) b = ⊥

abbrev pub ActsAt : List Equation → Trace → Value → Action ⊥ → Type 0
ActsAt es trace (position p) action = Acts es trace p action
ActsAt es trace (message t) action = ⊥

abbrev pub EachValue : Signature → Trace → Mark → (Value → Type 0) → Type 0
EachValue signature trace bare P = (t : Ground) → IsValue signature Msg t → P (message t)
EachValue signature trace (of_sort sort) P = (t : Ground) → IsValue signature sort t → P (message t)
EachValue signature trace of_time P = (p : ℕ) → p < length trace → P (position p)

abbrev pub SomeValue : Signature → Trace → Mark → (Value → Type 0) → Type 0
SomeValue signature trace bare P = Classically ((t : Ground) × IsValue signature Msg t × P (message t))
SomeValue signature trace (of_sort sort) P = Classically ((t : Ground) × IsValue signature sort t × P (message t))
SomeValue signature trace of_time P = Classically ((p : ℕ) × (p < length trace) × P (position p))

abbrev pub IsTrueIn : Signature → Trace → Environment → Formula → Type 0
IsTrueIn signature trace env truth = Unit {0}
IsTrueIn signature trace env falsity = ⊥
IsTrueIn signature trace env (happens action i) = Classically (ActsAt signature.equations trace (value_of env i.name) (action_at (λ x. message_of (value_of env x.name)) action))
IsTrueIn signature trace env (equals t u) = Classically (IsSame signature.equations (value_in env t) (value_in env u))
IsTrueIn signature trace env (precedes i j) = IsEarlier (value_of env i.name) (value_of env j.name)
IsTrueIn signature trace env (not_so f) = IsTrueIn signature trace env f → ⊥
IsTrueIn signature trace env (both f g) = IsTrueIn signature trace env f × IsTrueIn signature trace env g
IsTrueIn signature trace env (either f g) = Classically (IsTrueIn signature trace env f ⊎ IsTrueIn signature trace env g)
IsTrueIn signature trace env (implies f g) = IsTrueIn signature trace env f → IsTrueIn signature trace env g
IsTrueIn signature trace env (for_all x f) = EachValue signature trace x.mark (λ a. IsTrueIn signature trace ((x.name, a) ∷ env) f)
IsTrueIn signature trace env (for_some x f) = SomeValue signature trace x.mark (λ a. IsTrueIn signature trace ((x.name, a) ∷ env) f)

-- of a closed formula
abbrev pub IsTrueOver : Signature → Trace → Formula → Type 0
IsTrueOver signature trace f = IsTrueIn signature trace [] f

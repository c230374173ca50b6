-- Truth is that of classical logic: what isn't false is true.
use Rattle.std.proofs.Common.{◌⊎◌, ℕ, ◌<◌, ◌≤◌, ◌∷◌, inl, inr, arith}
use Rattle.std.proofs.lemmas.Bool.{cases_lt}
use Rattle.sp_spec.specs.Lists.{Classically}
use Rattle.sp_spec.specs.Signature.{Signature}
use Rattle.sp_spec.specs.Formula.{Mark, bare, of_sort, of_time, Formula, truth, falsity, happens, equals, precedes, not_so, both, either, implies, for_all, for_some}
use Rattle.sp_spec.specs.Execution.{Trace}
use Rattle.sp_spec.specs.Truth.{Value, message, position, Environment, IsEarlier, value_of, EachValue, SomeValue, IsTrueIn}

-- it follows under the double negation
pub classically : {A B : Type 0} → (A → B) → Classically A → Classically B
classically f a none = a (λ x. none (f x))

pub stable_negation : {A : Type 0} → Classically (A → ⊥) → A → ⊥
stable_negation h x = h (λ n. n x)

pub stable_classically : {A : Type 0} → Classically (Classically A) → Classically A
stable_classically h none = h (λ k. k none)

pub stable_less : (m n : ℕ) → Classically (m < n) → m < n
stable_less m n h = at (cases_lt m n)
  where
    at : (m < n) ⊎ (n ≤ m) → m < n
    at (inl x) = x
    at (inr x) = absurd (h (λ y. omega arith))

pub stable_earlier : (a b : Value) → Classically (IsEarlier a b) → IsEarlier a b
stable_earlier (position p) (position q) h = stable_less p q h
stable_earlier (position p) (message u) h = h (λ x. x)
stable_earlier (message t) b h = h (λ x. x)

pub stable_each_value : (signature : Signature) (trace : Trace) (mark : Mark) (P : Value → Type 0) → ((a : Value) → Classically (P a) → P a)
    → Classically (EachValue signature trace mark P) → EachValue signature trace mark P
stable_each_value signature trace bare P below h = λ t s. below (message t) (classically (λ p. p t s) h)
stable_each_value signature trace (of_sort sort) P below h = λ t s. below (message t) (classically (λ p. p t s) h)
stable_each_value signature trace of_time P below h = λ p l. below (position p) (classically (λ q. q p l) h)

pub stable_some_value : (signature : Signature) (trace : Trace) (mark : Mark) (P : Value → Type 0) → Classically (SomeValue signature trace mark P) → SomeValue signature trace mark P
stable_some_value signature trace bare P h = stable_classically h
stable_some_value signature trace (of_sort sort) P h = stable_classically h
stable_some_value signature trace of_time P h = stable_classically h

-- of a written formula
pub stable_truth : (signature : Signature) (trace : Trace) (env : Environment) (f : Formula) → Classically (IsTrueIn signature trace env f) → IsTrueIn signature trace env f
stable_truth signature trace env truth h = tt
stable_truth signature trace env falsity h = h (λ x. x)
stable_truth signature trace env (happens action i) h = stable_classically h
stable_truth signature trace env (equals t u) h = stable_classically h
stable_truth signature trace env (precedes i j) h = stable_earlier (value_of env i.name) (value_of env j.name) h
stable_truth signature trace env (not_so f) h = stable_negation h
stable_truth signature trace env (both f g) h =
    (stable_truth signature trace env f (classically (λ p. p.0) h), stable_truth signature trace env g (classically (λ p. p.1) h))
stable_truth signature trace env (either f g) h = stable_classically h
stable_truth signature trace env (implies f g) h = λ x. stable_truth signature trace env g (classically (λ p. p x) h)
stable_truth signature trace env (for_all x f) h =
    stable_each_value signature trace x.mark (λ (a : Value). IsTrueIn signature trace ((x.name, a) ∷ env) f) (λ a. stable_truth signature trace ((x.name, a) ∷ env) f) h
stable_truth signature trace env (for_some x f) h =
    stable_some_value signature trace x.mark (λ (a : Value). IsTrueIn signature trace ((x.name, a) ∷ env) f) h

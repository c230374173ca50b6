-- What the unifier owes to those who use it, and the tests of order.
use Rattle.std.specs.Prelude.{◌<◌, ℕ, List, ◌≡◌, Some, None, ◌↔◌, true}
use Rattle.sp_spec.specs.Lists.{Every}
use Rattle.sp_spec.specs.Term.{Names, any_names, EachVariable, MadeOf, Variable, Values}
use Rattle.sp_spec.specs.Unifier.{Pair, MakesSame, mgu}
use Rattle.sp_spec.specs.Signature.{RespectsSorts}
use Rattle.sp_spec.specs.Substitution.{Binding, bound_to, Fixes}
use Rattle.sp_spec_system.specs.Order.{Path, is_before, is_cyclic}

-- each variable of the pairs has a number below the limit
abbrev pub PairsUnder : Names → ℕ → List Pair → Type 0
PairsUnder N n pairs = Every (λ (p : Pair). MadeOf N (λ x. x.number < n) p.0 × MadeOf N (λ x. x.number < n) p.1) pairs

-- The unifier changes no value of a valuation that makes the pairs the same; there is none only where no valuation makes them the
-- same; and it brings in no other variables.
pub record UnifierIsRight : Type 0 where
  pub fixes : (pairs : List Pair) (bs : List Binding) → mgu pairs ≡ Some bs → (v : Values) → RespectsSorts v → MakesSame v pairs → Fixes v bs
  pub none : (pairs : List Pair) → mgu pairs ≡ None → (v : Values) → RespectsSorts v → MakesSame v pairs → ⊥
  pub within : (pairs : List Pair) (bs : List Binding) → mgu pairs ≡ Some bs → (n : ℕ) → PairsUnder any_names n pairs → (x : Variable) → x.number < n → EachVariable (λ y. y.number < n) (bound_to bs x)

-- A time is before another exactly where a path of order pairs leads there, and the order has a cycle exactly where some time has a path
-- that leads to itself.
pub record BeforeIsAPath : Type 0 where
  pub path : (order : List (ℕ × ℕ)) (i j : ℕ) → (is_before order i j ≡ true) ↔ Path order i j
  pub cycle : (order : List (ℕ × ℕ)) → (is_cyclic order ≡ true) ↔ ((i : ℕ) × Path order i i)

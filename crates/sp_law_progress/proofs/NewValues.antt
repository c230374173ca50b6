-- Values for new variables: a name for those of its sort, or a symbol's arguments for message variables, by their numbers.
use Rattle.std.proofs.Common.{◌≡◌, ◌+◌, ℕ, zero, suc, Bool, true, false, if◌then◌else◌, List, [], refl, sym, ap, ap₂, ◌∙◌, subst, arith}
use Rattle.sp_spec.specs.Term.{Sort, Msg, Fresh, Pub, Variable, constant, none, more, Ground, Grounds, count, Values, valued_all}
use Rattle.sp_spec.specs.Signature.{Symbol, Equation, IsOver, AreOver}
use Rattle.sp_spec.specs.Equal.{IsNormal, AreNormal}
use Rattle.sp_spec.specs.Same.{same_sort}
use Rattle.sp_spec.proofs.Same.{same_sort_tells}
use Rattle.sp_spec_system.specs.Solutions.{Valuation}
use Rattle.sp_spec_system.specs.Head.{new_variables}
use Rattle.sp_spec_formula.specs.Top.{of_number}
use Rattle.sp_law_formula.proofs.Entries.{beside, beside_new}

-- the value of a new variable
pub new_value : (next : ℕ) (v : Valuation) (u : Values) (sort : Sort) (i j : ℕ) → j ≡ next + i → (beside next v u).terms (of_number sort j) ≡ u (of_number sort i)
new_value next v u sort i j e = ap (λ (n : ℕ). (beside next v u).terms (of_number sort n)) e ∙ beside_new next v u (of_number sort i)

-- ---- a name

-- this value for each variable of the sort
abbrev pub of_sort : Sort → Ground → Values → Values
of_sort sort t v x = if same_sort x.sort sort then t else v x

pub each_of_sort : (P : Sort → Ground → Type 0) (sort : Sort) (t : Ground) (v : Values) → P sort t → ((x : Variable) → P x.sort (v x)) → (x : Variable) → P x.sort (of_sort sort t v x)
each_of_sort P sort t v p h x = at (same_sort x.sort sort) refl
  where
    at : (b : Bool) → same_sort x.sort sort ≡ b → P x.sort (if b then t else v x)
    at true e = subst (λ (z : Sort). P z t) (sym (same_sort_tells x.sort sort e)) p
    at false e = h x

-- ---- a symbol's arguments

abbrev pub argument : Grounds → ℕ → Ground
argument none i = constant []
argument (more t ts) zero = t
argument (more t ts) (suc i) = argument ts i

pub argument_over : (symbols : List Symbol) (ts : Grounds) → AreOver symbols ts → (i : ℕ) → IsOver symbols (argument ts i)
argument_over symbols none h i = tt
argument_over symbols (more t ts) h zero = h.0
argument_over symbols (more t ts) h (suc i) = argument_over symbols ts h.1 i

pub argument_normal : (es : List Equation) (ts : Grounds) → AreNormal es ts → (i : ℕ) → IsNormal es (argument ts i)
argument_normal es none h i = tt
argument_normal es (more t ts) h zero = h.0
argument_normal es (more t ts) h (suc i) = argument_normal es ts h.1 i

-- these for the message variables, by their numbers
abbrev by_place : Grounds → Values → Sort → Variable → Ground
by_place ts v Msg x = argument ts x.number
by_place ts v Fresh x = v x
by_place ts v Pub x = v x

abbrev pub of_arguments : Grounds → Values → Values
of_arguments ts v x = by_place ts v x.sort x

pub each_of_arguments : (P : Sort → Ground → Type 0) (ts : Grounds) (v : Values) → ((i : ℕ) → P Msg (argument ts i)) → ((x : Variable) → P x.sort (v x)) → (x : Variable) → P x.sort (of_arguments ts v x)
each_of_arguments P ts v p h x = at x.sort (h x)
  where
    at : (sort : Sort) → P sort (v x) → P sort (by_place ts v sort x)
    at Msg k = p x.number
    at Fresh k = k
    at Pub k = k

-- the new variables have them as their values
pub arguments_valued : (w : Values) (ts : Grounds) (k : ℕ) → ((i j : ℕ) → j ≡ k + i → w (of_number Msg j) ≡ argument ts i) → valued_all w (new_variables (count ts) k) ≡ ts
arguments_valued w none k h = refl
arguments_valued w (more t ts) k h = ap₂ more (h 0 k (omega arith)) (arguments_valued w ts (suc k) (λ i j e. h (suc i) j (omega (arith, e))))

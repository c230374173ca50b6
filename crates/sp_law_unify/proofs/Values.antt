-- Terms with their variables replaced, by terms over variables of any kind.
use Rattle.std.proofs.Common.{◌≡◌, ℕ, suc, ◌+◌, ◌≤◌, Bool, true, false, cond, List, [], ◌∷◌, Some, None, unwrap_or, refl, sym, ap, ◌∙◌, subst, arith, ⊎_elim, true≢false}
use Rattle.std.proofs.lemmas.Bool.{or_cases}
use Rattle.sp_spec.specs.Term.{Variable, Term, var, constant, name, app, Terms, none, more, valued, valued_all}
use Rattle.sp_spec.specs.Substitution.{Binding, lookup, bound_to, followed_by}
use Rattle.sp_spec.specs.Same.{same_variable}
use Rattle.sp_spec.specs.Unifier.{occurs, occurs_in}
use Rattle.sp_spec.proofs.Same.{same_variable_decides}

module _ {U V W : Type 0} (v : V → Term W) (s : U → Term V) (w : U → Term W) (then : (x : U) → w x ≡ valued v (s x)) where
  mutual
    -- one after the other is the composition of the two
    pub valued_then : (t : Term U) → valued v (valued s t) ≡ valued w t
    valued_then (var x) = sym (then x)
    valued_then (constant c) = refl
    valued_then (name n) = refl
    valued_then (app f ts) = ap (app f) (valued_then_all ts)

    valued_then_all : (ts : Terms U) → valued_all v (valued_all s ts) ≡ valued_all w ts
    valued_then_all none = refl
    valued_then_all (more t ts) = cc (valued_then t, valued_then_all ts)

-- the one list of bindings followed by the other is the composition of the two
pub bound_to-followed_by : (bs cs : List Binding) (x : Variable) → bound_to (followed_by bs cs) x ≡ valued (bound_to cs) (bound_to bs x)
bound_to-followed_by [] cs x = refl
bound_to-followed_by (b ∷ bs) cs x = by_test (same_variable b.0 x) (bound_to-followed_by bs cs x)
  where
    by_test : (test : Bool) → bound_to (followed_by bs cs) x ≡ valued (bound_to cs) (bound_to bs x)
        → unwrap_or (cond test (Some (valued (bound_to cs) b.1)) (lookup (followed_by bs cs) x)) (var x)
        ≡ valued (bound_to cs) (unwrap_or (cond test (Some b.1) (lookup bs x)) (var x))
    by_test true e = refl
    by_test false e = e

-- what holds of what a variable is bound to by one binding
pub bound_to-one : (x : Variable) (t : Term Variable) (P : Variable → Term Variable → Type 0) → P x t → (y : Variable) → P y (var y) → P y (bound_to ((x, t) ∷ []) y)
bound_to-one x t P here y there = by_test (same_variable x y) refl
  where
    by_test : (test : Bool) → same_variable x y ≡ test → P y (unwrap_or (cond test (Some t) None) (var y))
    by_test true e = subst (λ (z : Variable). P z t) ((same_variable_decides x y).0 e) here
    by_test false e = there

module _ {W : Type 0} (v : Variable → Term W) where
  -- the bindings change nothing of it
  abbrev pub Keeps : List Binding → Type 0
  Keeps bs = (x : Variable) → v x ≡ valued v (bound_to bs x)

  pub keeps_value : (bs : List Binding) → Keeps bs → (t : Term Variable) → valued v (valued (bound_to bs) t) ≡ valued v t
  keeps_value bs h t = valued_then v (bound_to bs) v h t

  -- so it is after one more binding, whose variable has the value of its term
  pub keeps_next : (bs : List Binding) (x : Variable) (t : Term Variable) → Keeps bs → v x ≡ valued v t → Keeps (followed_by bs ((x, t) ∷ []))
  keeps_next bs x t h e y =
      h y
      ∙ sym (keeps_value ((x, t) ∷ []) (λ z. bound_to-one x t (λ u r. v u ≡ valued v r) e z refl) (bound_to bs y))
      ∙ ap (valued v) (sym (bound_to-followed_by bs ((x, t) ∷ []) y))

-- how many symbols, names and variables a term has
abbrev mutual
  size : {V : Type 0} → Term V → ℕ
  size (var x) = 1
  size (constant c) = 1
  size (name n) = 1
  size (app f ts) = suc (size_all ts)

  size_all : {V : Type 0} → Terms V → ℕ
  size_all none = 0
  size_all (more t ts) = size t + size_all ts

module _ {W : Type 0} (x : Variable) (v : Variable → Term W) where
  mutual
    -- a variable's value is no larger than that of a term in which it occurs
    occurs-le : (t : Term Variable) → occurs x t ≡ true → size (v x) ≤ size (valued v t)
    occurs-le (var y) o = let P : Variable → Type 0 = λ z. size (v x) ≤ size (v z) in subst P ((same_variable_decides x y).0 o) (omega arith)
    occurs-le (constant c) o = absurd (true≢false (sym o))
    occurs-le (name n) o = absurd (true≢false (sym o))
    occurs-le (app f ts) o = omega (arith, occurs_in-le ts o)

    occurs_in-le : (ts : Terms Variable) → occurs_in x ts ≡ true → size (v x) ≤ size_all (valued_all v ts)
    occurs_in-le none o = absurd (true≢false (sym o))
    occurs_in-le (more t ts) o =
        ⊎_elim (λ h. omega (arith, occurs-le t h)) (λ h. omega (arith, occurs_in-le ts h)) (or_cases (occurs x t) (occurs_in x ts) o)

abbrev pub IsNoVariable : {V : Type 0} → Term V → Type 0
IsNoVariable (var x) = ⊥
IsNoVariable t = Unit {0}

-- nothing is a proper part of itself: no value of a variable is that of a larger term in which it occurs
pub no_part : {W : Type 0} (x : Variable) (t : Term Variable) (v : Variable → Term W) → IsNoVariable t → occurs x t ≡ true → v x ≡ valued v t → ⊥
no_part x (var y) v n o e = n
no_part x (constant c) v n o e = true≢false (sym o)
no_part x (name m) v n o e = true≢false (sym o)
no_part x (app f ts) v n o e = let long = occurs_in-le x v ts o in let whole = ap size e in omega (arith, long, whole)

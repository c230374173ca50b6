-- How many of the pairs' in_term pass a test, how many there are, and which.
use Rattle.std.proofs.Common.{◌≡◌, ℕ, ◌≤◌, ◌<◌, Bool, true, false, ◌||◌, cond, List, [], ◌∷◌, ◌++◌, length, length-append, refl, sym, ap, ap₂, ◌∙◌, arith, ⊎_elim, true≢false}
use Rattle.std.proofs.lemmas.Bool.{or_cases}
use Rattle.std.specs.List.{filter}
use Rattle.sp_spec.specs.Term.{Variable, Term, var, constant, name, app, Terms, none, more, valued, valued_all}
use Rattle.sp_spec.specs.Same.{same_variable}
use Rattle.sp_spec.specs.Substitution.{bound_to}
use Rattle.sp_spec.specs.Unifier.{Pair, occurs, occurs_in, occurrences, occurrences_in, occurrences_of}
use Rattle.sp_spec.proofs.Same.{same_variable_decides}
use Rattle.sp_law_unify.specs.Progress.{variables_of, listed, occurs_under}
use Rattle.sp_spec.specs.Term.{in_term, in_terms}

-- The one test holds of fewer in_term of a list than the other, where it holds of no more and not of one of them.
module _ (p q : Variable → Bool) (implies : (y : Variable) → p y ≡ true → q y ≡ true) where
  abbrev passed : (Variable → Bool) → List Variable → ℕ
  passed test ys = length (filter test ys)

  no_more : (xs : List Variable) → passed p xs ≤ passed q xs
  no_more [] = omega arith
  no_more (y ∷ ys) = at (p y) (q y) (implies y) (no_more ys)
    where
      at : (a b : Bool) → (a ≡ true → b ≡ true) → passed p ys ≤ passed q ys
          → length (cond a (y ∷ filter p ys) (filter p ys)) ≤ length (cond b (y ∷ filter q ys) (filter q ys))
      at true true h le = omega arith
      at true false h le = absurd (true≢false (sym (h refl)))
      at false true h le = omega arith
      at false false h le = le

  pub fewer : (x : Variable) → p x ≡ false → q x ≡ true → (xs : List Variable) → listed x xs ≡ true → passed p xs < passed q xs
  fewer x without within [] h = absurd (true≢false (sym h))
  fewer x without within (y ∷ ys) h =
      ⊎_elim here (λ k. later (p y) (q y) (implies y) (fewer x without within ys k)) (or_cases (same_variable x y) (listed x ys) h)
    where
      at : (a b : Bool) → a ≡ false → b ≡ true → passed p ys ≤ passed q ys
          → length (cond a (y ∷ filter p ys) (filter p ys)) < length (cond b (y ∷ filter q ys) (filter q ys))
      at true b e f le = absurd (true≢false e)
      at false true e f le = omega arith
      at false false e f le = absurd (true≢false (sym f))

      here : same_variable x y ≡ true → passed p (y ∷ ys) < passed q (y ∷ ys)
      here e = let is = sym ((same_variable_decides x y).0 e) in at (p y) (q y) (ap p is ∙ without) (ap q is ∙ within) (no_more ys)

      later : (a b : Bool) → (a ≡ true → b ≡ true) → passed p ys < passed q ys
          → length (cond a (y ∷ filter p ys) (filter p ys)) < length (cond b (y ∷ filter q ys) (filter q ys))
      later true true h lt = omega arith
      later true false h lt = absurd (true≢false (sym (h refl)))
      later false true h lt = omega arith
      later false false h lt = lt

mutual
  occurrences-length : (t : Term Variable) → length (in_term t) ≡ occurrences t
  occurrences-length (var x) = refl
  occurrences-length (constant c) = refl
  occurrences-length (name n) = refl
  occurrences-length (app f ts) = occurrences_in-length ts

  occurrences_in-length : (ts : Terms Variable) → length (in_terms ts) ≡ occurrences_in ts
  occurrences_in-length none = refl
  occurrences_in-length (more t ts) =
      omega (arith, length-append (in_term t) (in_terms ts), occurrences-length t, occurrences_in-length ts)

-- the in_term of the pairs are as many as the definition counts
pub occurrences_of-length : (pairs : List Pair) → length (variables_of pairs) ≡ occurrences_of pairs
occurrences_of-length [] = refl
occurrences_of-length (p ∷ pairs) =
    omega (
      arith,
      length-append (in_term p.0 ++ in_term p.1) (variables_of pairs),
      length-append (in_term p.0) (in_term p.1),
      occurrences-length p.0,
      occurrences-length p.1,
      occurrences_of-length pairs,
    )

module _ (x : Variable) where
  listed-append : (xs ys : List Variable) → listed x (xs ++ ys) ≡ (listed x xs || listed x ys)
  listed-append [] ys = refl
  listed-append (z ∷ xs) ys = at (same_variable x z) (listed-append xs ys)
    where
      at : (a : Bool) → listed x (xs ++ ys) ≡ (listed x xs || listed x ys) → (a || listed x (xs ++ ys)) ≡ ((a || listed x xs) || listed x ys)
      at true e = refl
      at false e = e

  mutual
    listed-occurs : (t : Term Variable) → listed x (in_term t) ≡ occurs x (valued (bound_to []) t)
    listed-occurs (var y) = at (same_variable x y)
      where
        at : (a : Bool) → (a || false) ≡ a
        at true = refl
        at false = refl
    listed-occurs (constant c) = refl
    listed-occurs (name n) = refl
    listed-occurs (app f ts) = listed-occurs_in ts

    listed-occurs_in : (ts : Terms Variable) → listed x (in_terms ts) ≡ occurs_in x (valued_all (bound_to []) ts)
    listed-occurs_in none = refl
    listed-occurs_in (more t ts) = listed-append (in_term t) (in_terms ts) ∙ ap₂ ◌||◌ (listed-occurs t) (listed-occurs_in ts)

  -- without bindings the listed in_term are those that occur
  pub listed-occurs_under : (pairs : List Pair) → listed x (variables_of pairs) ≡ occurs_under [] pairs x
  listed-occurs_under [] = refl
  listed-occurs_under (p ∷ pairs) =
      listed-append (in_term p.0 ++ in_term p.1) (variables_of pairs)
      ∙ ap₂ ◌||◌ (listed-append (in_term p.0) (in_term p.1) ∙ ap₂ ◌||◌ (listed-occurs p.0) (listed-occurs p.1)) (listed-occurs_under pairs)

-- Each binding takes a variable out of the pairs.
use Rattle.std.proofs.Common.{◌≡◌, Bool, true, false, not, ◌||◌, ◌&&◌, cond, nat_lt, nat_eq, List, [], ◌∷◌, Some, None, unwrap_or, refl, sym, ◌∙◌, subst, ⊎_elim, true≢false}
use Rattle.std.proofs.lemmas.Bool.{or_cases, or_left, or_right, cond_both, false_from_ne_true}
use Rattle.std.specs.Str.{bytes_eq}
use Rattle.sp_spec.specs.Term.{Sort, Msg, Fresh, Pub, Variable, Term, var, constant, name, app, Terms, none, more, valued, valued_all}
use Rattle.sp_spec.specs.Same.{same_variable}
use Rattle.sp_spec.specs.Substitution.{Binding, lookup, bound_to, followed_by}
use Rattle.sp_spec.specs.Unifier.{Pair, Difference, no_difference, clash, binding, occurs, occurs_in, may_stand, with_term, by_number, by_sorts, with_variable, or_then, difference, differences, first_difference}
use Rattle.sp_spec.proofs.Same.{same_variable_decides}
use Rattle.sp_law_unify.specs.Progress.{occurs_under}

-- the test tells the variables apart in either order
apart_back : (x y : Variable) → same_variable x y ≡ false → same_variable y x ≡ false
apart_back x y e =
    false_from_ne_true (same_variable y x)
    (λ h. true≢false (sym ((same_variable_decides x y).1 (sym ((same_variable_decides y x).0 h))) ∙ e))

abbrev in_term : Term Variable → Variable → Bool
in_term t y = occurs y t

abbrev in_terms : Terms Variable → Variable → Bool
in_terms ts y = occurs_in y ts

abbrev either : (Variable → Bool) → (Variable → Bool) → Variable → Bool
either f g y = f y || g y

-- P holds of each variable of which the test holds
abbrev pub Each : (Variable → Type 0) → (Variable → Bool) → Type 0
Each P test = (y : Variable) → test y ≡ true → P y

-- P holds of the variable of a binding and of those of its term, and the term lacks the variable
pub record Binds (P : Variable → Type 0) (x : Variable) (t : Term Variable) : Type 0 where
  pub here : P x
  pub only : Each P (in_term t)
  pub new : occurs x t ≡ false

abbrev pub Tells : (Variable → Type 0) → Difference → Type 0
Tells P no_difference = Unit {0}
Tells P clash = Unit {0}
Tells P (binding x t) = Binds P x t

module _ (P : Variable → Type 0) where
  -- P of what passes one of two tests is P of what passes the first, and of what passes the second
  in_left : (f g : Variable → Bool) → Each P (either f g) → Each P f
  in_left f g h y o = h y (or_left (f y) (g y) o)

  in_right : (f g : Variable → Bool) → Each P (either f g) → Each P g
  in_right f g h y o = h y (or_right (f y) (g y) o)

  in_both : (f g : Variable → Bool) → Each P f → Each P g → Each P (either f g)
  in_both f g h k y o = ⊎_elim (h y) (k y) (or_cases (f y) (g y) o)

  -- P of the variables of a variable is P of it
  of_variable : (x : Variable) → Each P (in_term (var x)) → P x
  of_variable x h = h x ((same_variable_decides x x).1 refl)

  is_variable : (x : Variable) → P x → Each P (in_term (var x))
  is_variable x h y o = subst P (sym ((same_variable_decides y x).0 o)) h

-- What a difference tells where P holds of the variables of both terms.
module _ (P : Variable → Type 0) where
  -- of two differences the first that is one tells
  or_then_tells : (d e : Difference) → Tells P d → Tells P e → Tells P (or_then d e)
  or_then_tells no_difference e h k = k
  or_then_tells clash e h k = tt
  or_then_tells (binding x t) e h k = h

  module _ (x y : Variable) (hx : Each P (in_term (var x))) (hy : Each P (in_term (var y))) (unequal : same_variable x y ≡ false) where
    -- the one variable is bound to the other, or the other to the one
    there : Binds P x (var y)
    there = record { here = of_variable P x hx; only = hy; new = unequal }

    back : Binds P y (var x)
    back = record { here = of_variable P y hy; only = hx; new = apart_back x y unequal }

    by_number_tells : Tells P (by_number x y)
    by_number_tells = cond_both (nat_lt x.number y.number) (binding y (var x)) (binding x (var y)) (Tells P) (λ _. back) (λ _. there)

    by_sorts_tells : (s u : Sort) → Tells P (by_sorts s u x y)
    by_sorts_tells Msg Msg = by_number_tells
    by_sorts_tells Msg Fresh = there
    by_sorts_tells Msg Pub = there
    by_sorts_tells Fresh Msg = back
    by_sorts_tells Fresh Fresh = by_number_tells
    by_sorts_tells Fresh Pub = tt
    by_sorts_tells Pub Msg = back
    by_sorts_tells Pub Fresh = tt
    by_sorts_tells Pub Pub = by_number_tells

  with_variable_tells : (x y : Variable) → Each P (in_term (var x)) → Each P (in_term (var y)) → Tells P (with_variable x y)
  with_variable_tells x y hx hy =
      cond_both (same_variable x y) no_difference (by_sorts x.sort y.sort x y) (Tells P)
      (λ _. tt) (λ e. by_sorts_tells x y hx hy e x.sort y.sort)

  with_term_tells : (x : Variable) (t : Term Variable) → Each P (in_term (var x)) → Each P (in_term t) → Tells P (with_term x t)
  with_term_tells x t hx ht = by_tests (may_stand x.sort t) (occurs x t) refl
    where
      by_tests : (m o : Bool) → occurs x t ≡ o → Tells P (cond (m && not o) (binding x t) clash)
      by_tests true false e = record { here = of_variable P x hx; only = ht; new = e }
      by_tests true true e = tt
      by_tests false true e = tt
      by_tests false false e = tt

  mutual
    -- the variables of a difference are those of the two terms
    difference_tells : (t u : Term Variable) → Each P (in_term t) → Each P (in_term u) → Tells P (difference t u)
    difference_tells (var x) (var y) h k = with_variable_tells x y h k
    difference_tells (var x) (constant d) h k = with_term_tells x (constant d) h k
    difference_tells (var x) (name n) h k = with_term_tells x (name n) h k
    difference_tells (var x) (app g us) h k = with_term_tells x (app g us) h k
    difference_tells (constant c) (var y) h k = with_term_tells y (constant c) k h
    difference_tells (name m) (var y) h k = with_term_tells y (name m) k h
    difference_tells (app f ts) (var y) h k = with_term_tells y (app f ts) k h
    difference_tells (constant c) (constant d) h k = cond_both (bytes_eq c d) no_difference clash (Tells P) (λ _. tt) (λ _. tt)
    difference_tells (name m) (name n) h k = cond_both (nat_eq m n) no_difference clash (Tells P) (λ _. tt) (λ _. tt)
    difference_tells (app f ts) (app g us) h k =
        cond_both (bytes_eq f g) (differences ts us) clash (Tells P) (λ _. differences_tell ts us h k) (λ _. tt)
    difference_tells (constant c) (name n) h k = tt
    difference_tells (constant c) (app g us) h k = tt
    difference_tells (name m) (constant d) h k = tt
    difference_tells (name m) (app g us) h k = tt
    difference_tells (app f ts) (constant d) h k = tt
    difference_tells (app f ts) (name n) h k = tt

    differences_tell : (ts us : Terms Variable) → Each P (in_terms ts) → Each P (in_terms us) → Tells P (differences ts us)
    differences_tell none none h k = tt
    differences_tell none (more u us) h k = tt
    differences_tell (more t ts) none h k = tt
    differences_tell (more t ts) (more u us) h k =
        or_then_tells (difference t u) (differences ts us)
        (difference_tells t u (in_left P (in_term t) (in_terms ts) h) (in_left P (in_term u) (in_terms us) k))
        (differences_tell ts us (in_right P (in_term t) (in_terms ts) h) (in_right P (in_term u) (in_terms us) k))

-- the tests of the two sides of a pair under bindings
abbrev in_first : List Binding → Pair → Variable → Bool
in_first bs p = in_term (valued (bound_to bs) p.0)

abbrev in_second : List Binding → Pair → Variable → Bool
in_second bs p = in_term (valued (bound_to bs) p.1)

module _ (P : Variable → Type 0) (bs : List Binding) (p : Pair) (pairs : List Pair) (h : Each P (occurs_under bs (p ∷ pairs))) where
  -- P holds of what occurs in either side of the first pair, and in the other pairs
  first_of : Each P (in_first bs p)
  first_of = in_left P (in_first bs p) (in_second bs p) (in_left P (either (in_first bs p) (in_second bs p)) (occurs_under bs pairs) h)

  second_of : Each P (in_second bs p)
  second_of = in_right P (in_first bs p) (in_second bs p) (in_left P (either (in_first bs p) (in_second bs p)) (occurs_under bs pairs) h)

  rest_of : Each P (occurs_under bs pairs)
  rest_of = in_right P (either (in_first bs p) (in_second bs p)) (occurs_under bs pairs) h

-- the variables of the first difference occur in the pairs under the bindings
pub first_difference_tells : (P : Variable → Type 0) (bs : List Binding) (pairs : List Pair) → Each P (occurs_under bs pairs)
    → Tells P (first_difference bs pairs)
first_difference_tells P bs [] h = tt
first_difference_tells P bs (p ∷ pairs) h =
    or_then_tells P (difference (valued (bound_to bs) p.0) (valued (bound_to bs) p.1)) (first_difference bs pairs)
    (difference_tells P (valued (bound_to bs) p.0) (valued (bound_to bs) p.1) (first_of P bs p pairs h) (second_of P bs p pairs h))
    (first_difference_tells P bs pairs (rest_of P bs p pairs h))

module _ (P Q : Variable → Type 0) (w : Variable → Term Variable) (each : (z : Variable) → P z → Each Q (in_term (w z))) where
  mutual
    -- the variables of a term with its variables replaced are those of what stands for its variables
    of_valued : (u : Term Variable) → Each P (in_term u) → Each Q (in_term (valued w u))
    of_valued (var z) h = each z (of_variable P z h)
    of_valued (constant c) h = λ y o. absurd (true≢false (sym o))
    of_valued (name n) h = λ y o. absurd (true≢false (sym o))
    of_valued (app f us) h = of_valued_all us h

    of_valued_all : (us : Terms Variable) → Each P (in_terms us) → Each Q (in_terms (valued_all w us))
    of_valued_all none h = λ y o. absurd (true≢false (sym o))
    of_valued_all (more u us) h =
        in_both Q (in_term (valued w u)) (in_terms (valued_all w us))
        (of_valued u (in_left P (in_term u) (in_terms us) h)) (of_valued_all us (in_right P (in_term u) (in_terms us) h))

module _ (P : Variable → Type 0) (v : Variable → Term Variable) where
  -- P holds of the variables of what stands for the variable
  abbrev Value : Variable → Type 0
  Value z = Each P (in_term (v z))

  mutual
    -- what stands for the variables of a term has only variables of the term with its variables replaced
    from_valued : (u : Term Variable) → Each P (in_term (valued v u)) → Each Value (in_term u)
    from_valued (var z) h = is_variable Value z h
    from_valued (constant c) h = λ y o. absurd (true≢false (sym o))
    from_valued (name n) h = λ y o. absurd (true≢false (sym o))
    from_valued (app f us) h = from_valued_all us h

    from_valued_all : (us : Terms Variable) → Each P (in_terms (valued_all v us)) → Each Value (in_terms us)
    from_valued_all none h = λ y o. absurd (true≢false (sym o))
    from_valued_all (more u us) h =
        in_both Value (in_term u) (in_terms us)
        (from_valued u (in_left P (in_term (valued v u)) (in_terms (valued_all v us)) h))
        (from_valued_all us (in_right P (in_term (valued v u)) (in_terms (valued_all v us)) h))

-- What a binding changes: P holds of what occurred before and of what is in its term, which lacks its variable.
module _ (P : Variable → Type 0) (x : Variable) (t : Term Variable) (only : Each P (in_term t)) (new : occurs x t ≡ false) where
  abbrev one : List Binding
  one = (x, t) ∷ []

  -- what occurs afterwards occurred before, and isn't the variable
  abbrev pub Stays : Variable → Type 0
  Stays y = P y × (same_variable x y ≡ false)

  -- the term's variables stay
  in_new : Each Stays (in_term t)
  in_new y o = (
    only y o,
    false_from_ne_true (same_variable x y)
        (λ e. let Occurs : Variable → Type 0 = λ z. occurs z t ≡ true in true≢false (sym (subst Occurs (sym ((same_variable_decides x y).0 e)) o) ∙ new)),
  )

  -- under the one binding a variable stays, or its place is taken by the term
  by_one : (z : Variable) → P z → Each Stays (in_term (bound_to one z))
  by_one z h = by_test (same_variable x z) refl
    where
      by_test : (test : Bool) → same_variable x z ≡ test → Each Stays (in_term (unwrap_or (cond test (Some t) None) (var z)))
      by_test true e = in_new
      by_test false e = is_variable Stays z (h, e)

  -- so it is after other bindings, for a variable and for a term
  by_next : (bs : List Binding) (z : Variable) → Each P (in_term (bound_to bs z)) → Each Stays (in_term (bound_to (followed_by bs one) z))
  by_next [] z h = by_one z (of_variable P z h)
  by_next (b ∷ bs) z h = by_test (same_variable b.0 z) h (by_next bs z)
    where
      by_test : (test : Bool) → Each P (in_term (unwrap_or (cond test (Some b.1) (lookup bs z)) (var z)))
          → (Each P (in_term (bound_to bs z)) → Each Stays (in_term (bound_to (followed_by bs one) z)))
          → Each Stays (in_term (unwrap_or (cond test (Some (valued (bound_to one) b.1)) (lookup (followed_by bs one) z)) (var z)))
      by_test true k later = of_valued P Stays (bound_to one) by_one b.1 k
      by_test false k later = later k

  by_next_term : (bs : List Binding) (u : Term Variable) → Each P (in_term (valued (bound_to bs) u))
      → Each Stays (in_term (valued (bound_to (followed_by bs one)) u))
  by_next_term bs u h = of_valued (Value P (bound_to bs)) Stays (bound_to (followed_by bs one)) (by_next bs) u (from_valued P (bound_to bs) u h)

  -- what occurs in pairs after the binding occurred before it, and isn't its variable
  pub stays : (bs : List Binding) (pairs : List Pair) → Each P (occurs_under bs pairs) → Each Stays (occurs_under (followed_by bs one) pairs)
  stays bs [] h = λ y o. absurd (true≢false (sym o))
  stays bs (p ∷ pairs) h =
      in_both Stays (either (in_first next p) (in_second next p)) (occurs_under next pairs)
      (in_both Stays (in_first next p) (in_second next p) (by_next_term bs p.0 (first_of P bs p pairs h)) (by_next_term bs p.1 (second_of P bs p pairs h)))
      (stays bs pairs (rest_of P bs p pairs h))
    where
      next : List Binding
      next = followed_by bs one

-- The unifier brings in no variables but those of the pairs.
use Rattle.std.proofs.Common.{◌≡◌, ℕ, zero, suc, not, ◌&&◌, nat_lt, nat_eq, List, [], ◌∷◌, Option, Some, None, sym, subst}
use Rattle.std.proofs.lemmas.Bool.{cond_both}
use Rattle.std.specs.Str.{bytes_eq}
use Rattle.sp_spec.specs.Lists.{Every}
use Rattle.sp_spec.specs.Term.{Names, Sort, Msg, Fresh, Pub, Variable, Term, var, constant, name, app, Terms, none, more, MadeOf, AllMadeOf}
use Rattle.sp_spec.specs.Substitution.{Binding, bound_to, followed_by}
use Rattle.sp_spec.specs.Same.{same_variable}
use Rattle.sp_spec.specs.Unifier.{Pair, Difference, no_difference, clash, binding, occurs, may_stand, with_term, by_number, by_sorts, with_variable, or_then, difference, differences, first_difference, go_on, unified, mgu, occurrences_of}
use Rattle.sp_law_unify.proofs.Values.{bound_to-followed_by, bound_to-one}
use Rattle.sp_law_equal.proofs.Made.{each_valued}

-- of a chain of differences the first one counts
or_then_keeps : (D : Difference → Type 0) (d e : Difference) → D d → D e → D (or_then d e)
or_then_keeps D no_difference e h k = k
or_then_keeps D clash e h k = h
or_then_keeps D (binding x t) e h k = h

-- two variables are the same, clash, or the one is bound to the other
module _ (D : Difference → Type 0) (x y : Variable) (there : D (binding x (var y))) (back : D (binding y (var x))) (apart : D clash) where
  by_number_keeps : D (by_number x y)
  by_number_keeps = cond_both (nat_lt x.number y.number) (binding y (var x)) (binding x (var y)) D (λ _. back) (λ _. there)

  by_sorts_keeps : (s u : Sort) → D (by_sorts s u x y)
  by_sorts_keeps Msg Msg = by_number_keeps
  by_sorts_keeps Msg Fresh = there
  by_sorts_keeps Msg Pub = there
  by_sorts_keeps Fresh Msg = back
  by_sorts_keeps Fresh Fresh = by_number_keeps
  by_sorts_keeps Fresh Pub = apart
  by_sorts_keeps Pub Msg = back
  by_sorts_keeps Pub Fresh = apart
  by_sorts_keeps Pub Pub = by_number_keeps

  with_variable_keeps : D no_difference → D (with_variable x y)
  with_variable_keeps same =
      cond_both (same_variable x y) no_difference (by_sorts x.sort y.sort x y) D (λ _. same) (λ _. by_sorts_keeps x.sort y.sort)

-- it holds of the variables in a binding
abbrev pub Within : Names → (Variable → Type 0) → Difference → Type 0
Within N P no_difference = Unit {0}
Within N P clash = Unit {0}
Within N P (binding x t) = P x × MadeOf N P t

module _ (N : Names) (P : Variable → Type 0) where
  with_variable_within : (x y : Variable) → P x → P y → Within N P (with_variable x y)
  with_variable_within x y h k = with_variable_keeps (Within N P) x y (h, k) (k, h) tt tt

  with_term_within : (x : Variable) (t : Term Variable) → P x → MadeOf N P t → Within N P (with_term x t)
  with_term_within x t h k = cond_both (may_stand x.sort t && not (occurs x t)) (binding x t) clash (Within N P) (λ _. (h, k)) (λ _. tt)

  mutual
    -- a difference binds no variable that the two terms lack
    difference_within : (t u : Term Variable) → MadeOf N P t → MadeOf N P u → Within N P (difference t u)
    difference_within (var x) (var y) h k = with_variable_within x y h k
    difference_within (var x) (constant d) h k = with_term_within x (constant d) h k
    difference_within (var x) (name n) h k = with_term_within x (name n) h k
    difference_within (var x) (app g us) h k = with_term_within x (app g us) h k
    difference_within (constant c) (var y) h k = with_term_within y (constant c) k h
    difference_within (name m) (var y) h k = with_term_within y (name m) k h
    difference_within (app f ts) (var y) h k = with_term_within y (app f ts) k h
    difference_within (constant c) (constant d) h k = cond_both (bytes_eq c d) no_difference clash (Within N P) (λ _. tt) (λ _. tt)
    difference_within (name m) (name n) h k = cond_both (nat_eq m n) no_difference clash (Within N P) (λ _. tt) (λ _. tt)
    difference_within (app f ts) (app g us) h k = cond_both (bytes_eq f g) (differences ts us) clash (Within N P) (λ _. differences_within ts us h k) (λ _. tt)
    difference_within (constant c) (name n) h k = tt
    difference_within (constant c) (app g us) h k = tt
    difference_within (name m) (constant d) h k = tt
    difference_within (name m) (app g us) h k = tt
    difference_within (app f ts) (constant d) h k = tt
    difference_within (app f ts) (name n) h k = tt

    differences_within : (ts us : Terms Variable) → AllMadeOf N P ts → AllMadeOf N P us → Within N P (differences ts us)
    differences_within none none h k = tt
    differences_within none (more u us) h k = tt
    differences_within (more t ts) none h k = tt
    differences_within (more t ts) (more u us) h k =
        or_then_keeps (Within N P) (difference t u) (differences ts us) (difference_within t u h.0 k.0) (differences_within ts us h.1 k.1)

-- What each step keeps holds at the end, and where a clash is the end, what each clash shows.
module _ (Kept : List Binding → Type 0) (Failed : Type 0) where
  abbrev Goes : List Binding → Difference → Type 0
  Goes bs no_difference = Unit {0}
  Goes bs clash = Failed
  Goes bs (binding x t) = Kept (followed_by bs ((x, t) ∷ []))

  abbrev Ends : Option (List Binding) → Type 0
  Ends None = Failed
  Ends (Some bs) = Kept bs

  go_on_ends : (d : Difference) (bs : List Binding) (next : List Binding → Option (List Binding)) → Kept bs → Goes bs d
      → ((cs : List Binding) → Kept cs → Ends (next cs)) → Ends (go_on d bs next)
  go_on_ends no_difference bs next kept goes later = kept
  go_on_ends clash bs next kept goes later = goes
  go_on_ends (binding x t) bs next kept goes later = later (followed_by bs ((x, t) ∷ [])) goes

  unified_ends : (pairs : List Pair) → ((bs : List Binding) → Kept bs → Goes bs (first_difference bs pairs)) → (n : ℕ) (bs : List Binding) → Kept bs
      → Ends (unified n pairs bs)
  unified_ends pairs step zero bs kept = kept
  unified_ends pairs step (suc n) bs kept = go_on_ends (first_difference bs pairs) bs (unified n pairs) kept (step bs kept) (unified_ends pairs step n)

-- the bindings of variables with P have only variables with P
abbrev KeepsWithin : Names → (Variable → Type 0) → List Binding → Type 0
KeepsWithin N P bs = (x : Variable) → P x → MadeOf N P (bound_to bs x)

module _ (N : Names) (P : Variable → Type 0) where
  first_difference_within : (bs : List Binding) → KeepsWithin N P bs → (pairs : List Pair) → Every (λ (p : Pair). MadeOf N P p.0 × MadeOf N P p.1) pairs
      → Within N P (first_difference bs pairs)
  first_difference_within bs keeps [] h = tt
  first_difference_within bs keeps (p ∷ pairs) h =
      or_then_keeps (Within N P) _ (first_difference bs pairs)
      (difference_within N P _ _ (each_valued N P P (bound_to bs) keeps p.0 h.0.0) (each_valued N P P (bound_to bs) keeps p.1 h.0.1))
      (first_difference_within bs keeps pairs h.1)

  KeepsWithin-goes : (bs : List Binding) (d : Difference) → KeepsWithin N P bs → Within N P d → Goes (KeepsWithin N P) (Unit {0}) bs d
  KeepsWithin-goes bs no_difference keeps h = tt
  KeepsWithin-goes bs clash keeps h = tt
  KeepsWithin-goes bs (binding y t) keeps h = λ x k.
      subst (MadeOf N P) (sym (bound_to-followed_by bs ((y, t) ∷ []) x))
      (each_valued N P P (bound_to ((y, t) ∷ [])) (λ z q. bound_to-one y t (λ u r. P u → MadeOf N P r) (λ _. h.1) z (λ p. p) q) (bound_to bs x) (keeps x k))

  -- the unifier has no variables but those of the pairs
  pub mgu_within : (pairs : List Pair) (bs : List Binding) → Every (λ (p : Pair). MadeOf N P p.0 × MadeOf N P p.1) pairs → mgu pairs ≡ Some bs
      → (x : Variable) → P x → MadeOf N P (bound_to bs x)
  mgu_within pairs bs h e =
      subst (Ends (KeepsWithin N P) (Unit {0})) e
      (unified_ends (KeepsWithin N P) (Unit {0}) pairs (λ cs keeps. KeepsWithin-goes cs (first_difference cs pairs) keeps (first_difference_within cs keeps pairs h))
      (suc (occurrences_of pairs)) [] (λ x k. k))

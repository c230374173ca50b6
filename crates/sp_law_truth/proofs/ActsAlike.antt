-- Over traces whose positions have the same actions of the symbols that a formula names, and at equal values, it is as true.
use Rattle.std.proofs.Common.{◌≡◌, ℕ, zero, suc, ◌<◌, List, [], ◌∷◌, length, refl, sym, ap, ◌∙◌, subst, arith}
use Rattle.std.specs.Prelude.{◌↔◌}
use Rattle.sp_spec.specs.Lists.{Every}
use Rattle.sp_spec.specs.Term.{Ground}
use Rattle.sp_spec.specs.Signature.{Equation, Signature}
use Rattle.sp_spec.specs.Equal.{Equal, end}
use Rattle.sp_spec.specs.Rule.{Action, SameAction}
use Rattle.sp_spec.specs.Execution.{Trace}
use Rattle.sp_spec.specs.Truth.{Acts}
use Rattle.sp_spec.specs.Guarded.{Place, free, bound, Time, free_time, bound_time, Binder, message, time, Atom, acts, same, same_time, before, last, Guarded, Guardeds, truth, falsity, holds, fails, all_of, one_of, some, every, no_more, and_then, Assignment, with_term, with_time, pushed, place_in, action_in, time_in, AtomHolds, AtomsHold, SomeValues, EachValues, GuardedHolds, EachHolds, SomeHolds}
use Rattle.sp_spec.proofs.Lists.{every_parts}
use Rattle.sp_law_truth.specs.Shown.{atom_names, guard_names, action_names, all_action_names}
use Rattle.sp_law_truth.specs.Same.{EqualAssignments}
use Rattle.sp_law_truth.proofs.AsTrue.{as_itself, as_both, as_either, as_implies, as_not, as_classically}
use Rattle.sp_law_equal.proofs.Chains.{equal_trans, equal_sym, equal_valued, same_action_valued}

-- as long, and with the same actions at each position, as far as their symbols are of this kind
pub record ActsAlike (es : List Equation) (IsNamed : List ℕ → Type 0) (trace other : Trace) : Type 0 where
  pub lengths : length trace ≡ length other
  pub acts : (p : ℕ) (a b : Action ⊥) → IsNamed a.symbol → SameAction es a b → Acts es trace p a ↔ Acts es other p b

pub equal_assignment : (es : List Equation) (m : Assignment) → EqualAssignments es m m
equal_assignment es m = record { terms = λ x. end; times = λ i. refl; bound_terms = λ k. end; bound_times = λ k. refl }

with_equal_term : (es : List Equation) (m w : Assignment) → EqualAssignments es m w → (t : Ground) → EqualAssignments es (with_term t m) (with_term t w)
with_equal_term es m w h t = record { terms = h.terms; times = h.times; bound_terms = bound_terms; bound_times = h.bound_times }
  where
    bound_terms : (k : ℕ) → Equal es (pushed t m.bound_terms k) (pushed t w.bound_terms k)
    bound_terms zero = end
    bound_terms (suc k) = h.bound_terms k

with_same_time : (es : List Equation) (m w : Assignment) → EqualAssignments es m w → (p : ℕ) → EqualAssignments es (with_time p m) (with_time p w)
with_same_time es m w h p = record { terms = h.terms; times = h.times; bound_terms = h.bound_terms; bound_times = bound_times }
  where
    bound_times : (k : ℕ) → pushed p m.bound_times k ≡ pushed p w.bound_times k
    bound_times zero = refl
    bound_times (suc k) = h.bound_times k

equal_places : (es : List Equation) (m w : Assignment) → EqualAssignments es m w → (x : Place) → Equal es (place_in m x) (place_in w x)
equal_places es m w h (free x) = h.terms x
equal_places es m w h (bound k) = h.bound_terms k

same_times : (es : List Equation) (m w : Assignment) → EqualAssignments es m w → (i : Time) → time_in m i ≡ time_in w i
same_times es m w h (free_time i) = h.times i
same_times es m w h (bound_time k) = h.bound_times k

-- what is said of equal assignments is as true
abbrev IsAlike : List Equation → (P Q : Assignment → Type 0) → Type 0
IsAlike es P Q = (m w : Assignment) → EqualAssignments es m w → P m ↔ Q w

module _ (signature : Signature) (n k : ℕ) (lengths : n ≡ k) (P Q : Assignment → Type 0) (leaf : IsAlike signature.equations P Q) where
  some_alike : (bs : List Binder) → IsAlike signature.equations (SomeValues signature n bs P) (SomeValues signature k bs Q)
  some_alike [] m w h = leaf m w h
  some_alike (message sort ∷ bs) m w h =
      let below : (t : Ground) → _ = λ t. some_alike bs (with_term t m) (with_term t w) (with_equal_term signature.equations m w h t) in
      as_classically ((λ x. (x.0, x.1, (below x.0).0 x.2)), (λ x. (x.0, x.1, (below x.0).1 x.2)))
  some_alike (time ∷ bs) m w h =
      let below : (p : ℕ) → _ = λ p. some_alike bs (with_time p m) (with_time p w) (with_same_time signature.equations m w h p) in
      as_classically ((λ x. (x.0, subst (λ (z : ℕ). x.0 < z) lengths x.1, (below x.0).0 x.2)), (λ x. (x.0, subst (λ (z : ℕ). x.0 < z) (sym lengths) x.1, (below x.0).1 x.2)))

  each_alike : (bs : List Binder) → IsAlike signature.equations (EachValues signature n bs P) (EachValues signature k bs Q)
  each_alike [] m w h = leaf m w h
  each_alike (message sort ∷ bs) m w h =
      let below : (t : Ground) → _ = λ t. each_alike bs (with_term t m) (with_term t w) (with_equal_term signature.equations m w h t) in
      ((λ x t s. (below t).0 (x t s)), (λ x t s. (below t).1 (x t s)))
  each_alike (time ∷ bs) m w h =
      let below : (p : ℕ) → _ = λ p. each_alike bs (with_time p m) (with_time p w) (with_same_time signature.equations m w h p) in
      ((λ x p l. (below p).0 (x p (subst (λ (z : ℕ). p < z) (sym lengths) l))), (λ x p l. (below p).1 (x p (subst (λ (z : ℕ). p < z) lengths l))))

module _ (signature : Signature) (IsNamed : List ℕ → Type 0) (trace other : Trace) (alike : ActsAlike signature.equations IsNamed trace other) where
  atom_alike : (a : Atom) → Every IsNamed (atom_names a) → IsAlike signature.equations (λ m. AtomHolds signature trace m a) (λ m. AtomHolds signature other m a)
  atom_alike (acts action i) named m w h =
      let a = action_in m action in
      let b = action_in w action in
      let there = alike.acts (time_in w i) a b named.0 (same_action_valued signature.equations (place_in m) (place_in w) (equal_places signature.equations m w h) action) in
      let P : ℕ → Type 0 = λ p. Acts signature.equations trace p a in
      let e = same_times signature.equations m w h i in
      as_classically ((λ x. there.0 (subst P e x)), (λ x. subst P (sym e) (there.1 x)))
  atom_alike (same t u) named m w h =
      let trans = equal_trans signature.equations in
      let turned = equal_sym signature.equations in
      let e = equal_valued signature.equations (place_in m) (place_in w) (equal_places signature.equations m w h) in
      as_classically ((λ x. trans _ _ _ (turned _ _ (e t)) (trans _ _ _ x (e u))), (λ x. trans _ _ _ (e t) (trans _ _ _ x (turned _ _ (e u)))))
  atom_alike (same_time i j) named m w h =
      let e = same_times signature.equations m w h i in
      let d = same_times signature.equations m w h j in
      as_classically ((λ x. sym e ∙ x ∙ d), (λ x. e ∙ x ∙ sym d))
  atom_alike (before i j) named m w h =
      let e = same_times signature.equations m w h i in
      let d = same_times signature.equations m w h j in
      ((λ x. omega (arith, x, e, d)), (λ x. omega (arith, x, e, d)))
  atom_alike (last i) named m w h =
      let e = same_times signature.equations m w h i in
      let d = alike.lengths in
      as_classically ((λ x. sym (ap suc e) ∙ x ∙ d), (λ x. ap suc e ∙ x ∙ sym d))

  atoms_alike : (guard : List Atom) → Every IsNamed (guard_names guard) → IsAlike signature.equations (λ m. AtomsHold signature trace m guard) (λ m. AtomsHold signature other m guard)
  atoms_alike [] named m w h = as_itself
  atoms_alike (a ∷ guard) named m w h =
      as_both (atom_alike a (every_parts IsNamed (atom_names a) (guard_names guard) named).0 m w h) (atoms_alike guard (every_parts IsNamed (atom_names a) (guard_names guard) named).1 m w h)

  mutual
    pub formula_alike : (f : Guarded) → Every IsNamed (action_names f) → IsAlike signature.equations (λ m. GuardedHolds signature trace m f) (λ m. GuardedHolds signature other m f)
    formula_alike truth named m w h = as_itself
    formula_alike falsity named m w h = as_itself
    formula_alike (holds a) named m w h = atom_alike a named m w h
    formula_alike (fails a) named m w h = as_not (atom_alike a named m w h)
    formula_alike (all_of fs) named m w h = each_formula_alike fs named m w h
    formula_alike (one_of fs) named m w h = as_classically (some_formula_alike fs named m w h)
    formula_alike (some bs guard f) named m w h =
        some_alike signature (length trace) (length other) alike.lengths (λ u. AtomsHold signature trace u guard × GuardedHolds signature trace u f) (λ u. AtomsHold signature other u guard × GuardedHolds signature other u f)
        (λ u r k.
        as_both (atoms_alike guard (every_parts IsNamed (guard_names guard) (action_names f) named).0 u r k)
        (formula_alike f (every_parts IsNamed (guard_names guard) (action_names f) named).1 u r k)) bs m w h
    formula_alike (every bs guard f) named m w h =
        each_alike signature (length trace) (length other) alike.lengths (λ u. AtomsHold signature trace u guard → GuardedHolds signature trace u f) (λ u. AtomsHold signature other u guard → GuardedHolds signature other u f)
        (λ u r k.
        as_implies (atoms_alike guard (every_parts IsNamed (guard_names guard) (action_names f) named).0 u r k)
        (formula_alike f (every_parts IsNamed (guard_names guard) (action_names f) named).1 u r k)) bs m w h

    each_formula_alike : (fs : Guardeds) → Every IsNamed (all_action_names fs) → IsAlike signature.equations (λ m. EachHolds signature trace m fs) (λ m. EachHolds signature other m fs)
    each_formula_alike no_more named m w h = as_itself
    each_formula_alike (and_then f fs) named m w h =
        as_both (formula_alike f (every_parts IsNamed (action_names f) (all_action_names fs) named).0 m w h)
        (each_formula_alike fs (every_parts IsNamed (action_names f) (all_action_names fs) named).1 m w h)

    some_formula_alike : (fs : Guardeds) → Every IsNamed (all_action_names fs) → IsAlike signature.equations (λ m. SomeHolds signature trace m fs) (λ m. SomeHolds signature other m fs)
    some_formula_alike no_more named m w h = as_itself
    some_formula_alike (and_then f fs) named m w h =
        as_either (formula_alike f (every_parts IsNamed (action_names f) (all_action_names fs) named).0 m w h)
        (some_formula_alike fs (every_parts IsNamed (action_names f) (all_action_names fs) named).1 m w h)

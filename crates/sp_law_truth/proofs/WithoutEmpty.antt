-- Leaving out entries without actions keeps the truth of formulas whose times have actions.
use Rattle.std.proofs.Common.{◌≡◌, ◌⊎◌, ℕ, zero, suc, ◌<◌, List, [], ◌∷◌, length, refl, sym, ap, ap₂, subst, inl, inr, arith}
use Rattle.std.specs.Prelude.{◌↔◌}
use Rattle.sp_spec.specs.Term.{Values, Ground, valued}
use Rattle.sp_spec.specs.Signature.{Signature}
use Rattle.sp_spec.specs.Equal.{Equal}
use Rattle.sp_spec.specs.Rule.{Action, action_at}
use Rattle.sp_spec.specs.Execution.{Trace}
use Rattle.sp_spec.specs.Truth.{Acts}
use Rattle.sp_spec.specs.Guarded.{Place, Time, free_time, bound_time, Binder, message, time, Atom, acts, same, same_time, before, last, Guarded, Guardeds, truth, falsity, holds, fails, all_of, one_of, some, every, no_more, and_then, Assignment, with_term, with_time, pushed, place_in, action_in, time_in, AtomHolds, AtomsHold, SomeValues, EachValues, GuardedHolds, EachHolds, SomeHolds}
use Rattle.sp_law_truth.specs.Shown.{without_empty, times_within, IsBound, IsTimedAtom, AreTimedAtoms, HasActionAt, GuardsTimes, IsTimed, AreTimed}
use Rattle.sp_law_truth.proofs.Stable.{classically}
use Rattle.sp_law_truth.proofs.AsTrue.{as_itself, as_both, as_either, as_implies, as_not, as_classically}
use Rattle.sp_law_truth.proofs.Shifts.{Shifts, IsIdle, shifts_within, shifts_or_idle, shifts_from, shifts_rises, shifts_same, shifts_reflects_less, shifts_reflects_same, idle_acts, shifts_acts}

-- the same messages; the n innermost times stand at entries with actions, and short has their new positions
record Shortens (trace : Trace) (n : ℕ) (full short : Assignment) : Type 0 where
  terms : full.terms ≡ short.terms
  bound_terms : full.bound_terms ≡ short.bound_terms
  times : (k : ℕ) → k < n → Shifts trace (full.bound_times k) (short.bound_times k)

with_term_shortens : (trace : Trace) (n : ℕ) (full short : Assignment) → Shortens trace n full short → (t : Ground) → Shortens trace n (with_term t full) (with_term t short)
with_term_shortens trace n full short h t = record { terms = h.terms; bound_terms = ap (λ (b : ℕ → Ground). pushed t b) h.bound_terms; times = h.times }

with_time_shortens : (trace : Trace) (n : ℕ) (full short : Assignment) → Shortens trace n full short → (p q : ℕ) → Shifts trace p q → Shortens trace (suc n) (with_time p full) (with_time q short)
with_time_shortens trace n full short h p q s = record { terms = h.terms; bound_terms = h.bound_terms; times = times }
  where
    times : (k : ℕ) → k < suc n → Shifts trace (pushed p full.bound_times k) (pushed q short.bound_times k)
    times zero l = s
    times (suc k) l = h.times k (omega (arith, l))

bound_shifts : (trace : Trace) (n : ℕ) (full short : Assignment) → Shortens trace n full short → (i : Time) → IsBound n i → Shifts trace (time_in full i) (time_in short i)
bound_shifts trace n full short h (free_time i) b = absurd b
bound_shifts trace n full short h (bound_time k) b = h.times k b

-- what is said of the two assignments is as true
abbrev IsAlike : Trace → ℕ → (P Q : Assignment → Type 0) → Type 0
IsAlike trace n P Q = (full short : Assignment) → Shortens trace n full short → P full ↔ Q short

places_same : (trace : Trace) (n : ℕ) (full short : Assignment) → Shortens trace n full short → place_in full ≡ place_in short
places_same trace n full short h = ap₂ (λ (terms : Values) (bound_terms : ℕ → Ground). let m : Assignment = record { terms = terms; times = full.times; bound_terms = bound_terms; bound_times = full.bound_times } in place_in m) h.terms h.bound_terms

module _ (signature : Signature) (trace : Trace) where
  atom_alike : (n : ℕ) (a : Atom) → IsTimedAtom n a → IsAlike trace n (λ m. AtomHolds signature trace m a) (λ m. AtomHolds signature (without_empty trace) m a)
  atom_alike n (acts action i) t full short h =
      let s = shifts_acts signature.equations trace (time_in full i) (time_in short i) (action_in short action) (bound_shifts trace n full short h i t) in
      let same : action_in full action ≡ action_in short action = ap (λ (v : Place → Ground). action_at v action) (places_same trace n full short h) in
      let P : Action ⊥ → Type 0 = λ a. Acts signature.equations trace (time_in full i) a in
      (classically (λ x. s.0 (subst P same x)), classically (λ x. subst P (sym same) (s.1 x)))
  atom_alike n (same t u) x full short h =
      let P : (Place → Ground) → Type 0 = λ v. Equal signature.equations (valued v t) (valued v u) in
      let e = places_same trace n full short h in
      (classically (λ y. subst P e y), classically (λ y. subst P (sym e) y))
  atom_alike n (same_time i j) t full short h =
      let s = bound_shifts trace n full short h i t.0 in
      let r = bound_shifts trace n full short h j t.1 in (
        classically (λ e. shifts_same trace (time_in full j) (time_in short i) (time_in short j) (subst (λ (p : ℕ). Shifts trace p (time_in short i)) e s) r),
        classically (λ e. shifts_reflects_same trace (time_in full i) (time_in short i) (time_in full j) (time_in short j) s r e),
      )
  atom_alike n (before i j) t full short h =
      let s = bound_shifts trace n full short h i t.0 in
      let r = bound_shifts trace n full short h j t.1 in (
        (λ l. shifts_rises trace (time_in full i) (time_in short i) (time_in full j) (time_in short j) s r l),
        (λ l. shifts_reflects_less trace (time_in full i) (time_in short i) (time_in full j) (time_in short j) s r l),
      )
  atom_alike n (last i) t full short h = absurd t

  atoms_alike : (n : ℕ) (guard : List Atom) → AreTimedAtoms n guard → IsAlike trace n (λ m. AtomsHold signature trace m guard) (λ m. AtomsHold signature (without_empty trace) m guard)
  atoms_alike n [] t full short h = as_itself
  atoms_alike n (a ∷ guard) t full short h =
      as_both (atom_alike n a t.0 full short h) (atoms_alike n guard t.1 full short h)

  -- a guard that has an action at an idle time is false
  idle_guard : (m : Assignment) (k : ℕ) (guard : List Atom) → HasActionAt k guard → IsIdle trace (m.bound_times k) → AtomsHold signature trace m guard → ⊥
  idle_guard m k [] g idle t = g
  idle_guard m k (acts action (bound_time j) ∷ guard) (inl e) idle t =
      t.0 (idle_acts signature.equations trace (m.bound_times j) (action_in m action) (subst (λ (x : ℕ). IsIdle trace (m.bound_times x)) (sym e) idle))
  idle_guard m k (acts action (free_time j) ∷ guard) (inl e) idle t = e
  idle_guard m k (same u w ∷ guard) (inl e) idle t = e
  idle_guard m k (same_time u w ∷ guard) (inl e) idle t = e
  idle_guard m k (before u w ∷ guard) (inl e) idle t = e
  idle_guard m k (last u ∷ guard) (inl e) idle t = e
  idle_guard m k (a ∷ guard) (inr more) idle t = idle_guard m k guard more idle t.1

  module _ (guard : List Atom) (P Q : Assignment → Type 0) where
    -- no values meet such a guard, whatever is bound within
    no_values : (bs : List Binder) (k : ℕ) → HasActionAt (times_within bs k) guard → (m : Assignment) → IsIdle trace (m.bound_times k)
        → SomeValues signature (length trace) bs (λ w. AtomsHold signature trace w guard × P w) m → ⊥
    no_values [] k g m idle s = idle_guard m k guard g idle s.0
    no_values (message sort ∷ bs) k g m idle s = s (λ x. no_values bs k g (with_term x.0 m) idle x.2)
    no_values (time ∷ bs) k g m idle s = s (λ x. no_values bs (suc k) g (with_time x.0 m) idle x.2)

    all_values : (bs : List Binder) (k : ℕ) → HasActionAt (times_within bs k) guard → (m : Assignment) → IsIdle trace (m.bound_times k)
        → EachValues signature (length trace) bs (λ w. AtomsHold signature trace w guard → P w) m
    all_values [] k g m idle = λ t. absurd (idle_guard m k guard g idle t)
    all_values (message sort ∷ bs) k g m idle = λ t s. all_values bs k g (with_term t m) idle
    all_values (time ∷ bs) k g m idle = λ p l. all_values bs (suc k) g (with_time p m) idle

    some_alike : (bs : List Binder) → GuardsTimes bs guard → (n : ℕ)
        → IsAlike trace (times_within bs n) (λ w. AtomsHold signature trace w guard × P w) (λ w. AtomsHold signature (without_empty trace) w guard × Q w)
        → IsAlike trace n (SomeValues signature (length trace) bs (λ w. AtomsHold signature trace w guard × P w))
        (SomeValues signature (length (without_empty trace)) bs (λ w. AtomsHold signature (without_empty trace) w guard × Q w))
    some_alike [] g n leaf full short h = leaf full short h
    some_alike (message sort ∷ bs) g n leaf full short h =
        let below : (t : Ground) → _ = λ t. some_alike bs g n leaf (with_term t full) (with_term t short) (with_term_shortens trace n full short h t) in
        (classically (λ x. (x.0, x.1, (below x.0).0 x.2)), classically (λ x. (x.0, x.1, (below x.0).1 x.2)))
    some_alike (time ∷ bs) g n leaf full short h =
        let below : (p q : ℕ) → (s : Shifts trace p q) → _ = λ p q s. some_alike bs g.1 (suc n) leaf (with_time p full) (with_time q short) (with_time_shortens trace n full short h p q s) in (
          (λ s none. s (λ x. at x.0 (shifts_or_idle trace x.0) x.2 (λ q r. none (q, (shifts_within trace x.0 q r).1, (below x.0 q r).0 x.2)))),
          classically (λ x. let p = shifts_from trace x.0 x.1 in (p.0, (shifts_within trace p.0 x.0 p.1).0, (below p.0 x.0 p.1).1 x.2)),
        )
      where
        at : (p : ℕ) → ((q : ℕ) × Shifts trace p q) ⊎ IsIdle trace p → SomeValues signature (length trace) bs (λ w. AtomsHold signature trace w guard × P w) (with_time p full)
            → ((q : ℕ) → Shifts trace p q → ⊥) → ⊥
        at p (inl s) x k = k s.0 s.1
        at p (inr idle) x k = no_values bs zero g.0 (with_time p full) idle x

    each_alike : (bs : List Binder) → GuardsTimes bs guard → (n : ℕ)
        → IsAlike trace (times_within bs n) (λ w. AtomsHold signature trace w guard → P w) (λ w. AtomsHold signature (without_empty trace) w guard → Q w)
        → IsAlike trace n (EachValues signature (length trace) bs (λ w. AtomsHold signature trace w guard → P w))
        (EachValues signature (length (without_empty trace)) bs (λ w. AtomsHold signature (without_empty trace) w guard → Q w))
    each_alike [] g n leaf full short h = leaf full short h
    each_alike (message sort ∷ bs) g n leaf full short h =
        let below : (t : Ground) → _ = λ t. each_alike bs g n leaf (with_term t full) (with_term t short) (with_term_shortens trace n full short h t) in
        ((λ x t s. (below t).0 (x t s)), (λ x t s. (below t).1 (x t s)))
    each_alike (time ∷ bs) g n leaf full short h =
        let below : (p q : ℕ) → (s : Shifts trace p q) → _ = λ p q s. each_alike bs g.1 (suc n) leaf (with_time p full) (with_time q short) (with_time_shortens trace n full short h p q s) in (
          (λ x q l. let p = shifts_from trace q l in (below p.0 q p.1).0 (x p.0 (shifts_within trace p.0 q p.1).0)),
          (λ x p l. at p (shifts_or_idle trace p) (λ q s. (below p q s).1 (x q (shifts_within trace p q s).1))),
        )
      where
        at : (p : ℕ) → ((q : ℕ) × Shifts trace p q) ⊎ IsIdle trace p → ((q : ℕ) → Shifts trace p q → EachValues signature (length trace) bs (λ w. AtomsHold signature trace w guard → P w) (with_time p full))
            → EachValues signature (length trace) bs (λ w. AtomsHold signature trace w guard → P w) (with_time p full)
        at p (inl s) k = k s.0 s.1
        at p (inr idle) k = all_values bs zero g.0 (with_time p full) idle

mutual
  formula_alike : (signature : Signature) (trace : Trace) (n : ℕ) (f : Guarded) → IsTimed n f → IsAlike trace n (λ m. GuardedHolds signature trace m f) (λ m. GuardedHolds signature (without_empty trace) m f)
  formula_alike signature trace n truth t full short h = as_itself
  formula_alike signature trace n falsity t full short h = as_itself
  formula_alike signature trace n (holds a) t full short h = atom_alike signature trace n a t full short h
  formula_alike signature trace n (fails a) t full short h = as_not (atom_alike signature trace n a t full short h)
  formula_alike signature trace n (all_of fs) t full short h = each_formula_alike signature trace n fs t full short h
  formula_alike signature trace n (one_of fs) t full short h = as_classically (some_formula_alike signature trace n fs t full short h)
  formula_alike signature trace n (some bs guard f) t full short h =
      some_alike signature trace guard (λ m. GuardedHolds signature trace m f) (λ m. GuardedHolds signature (without_empty trace) m f) bs t.0 n
      (λ w l k. as_both (atoms_alike signature trace (times_within bs n) guard t.1 w l k) (formula_alike signature trace (times_within bs n) f t.2 w l k)) full short h
  formula_alike signature trace n (every bs guard f) t full short h =
      each_alike signature trace guard (λ m. GuardedHolds signature trace m f) (λ m. GuardedHolds signature (without_empty trace) m f) bs t.0 n
      (λ w l k. as_implies (atoms_alike signature trace (times_within bs n) guard t.1 w l k) (formula_alike signature trace (times_within bs n) f t.2 w l k)) full short h

  each_formula_alike : (signature : Signature) (trace : Trace) (n : ℕ) (fs : Guardeds) → AreTimed n fs → IsAlike trace n (λ m. EachHolds signature trace m fs) (λ m. EachHolds signature (without_empty trace) m fs)
  each_formula_alike signature trace n no_more t full short h = as_itself
  each_formula_alike signature trace n (and_then f fs) t full short h =
      as_both (formula_alike signature trace n f t.0 full short h) (each_formula_alike signature trace n fs t.1 full short h)

  some_formula_alike : (signature : Signature) (trace : Trace) (n : ℕ) (fs : Guardeds) → AreTimed n fs → IsAlike trace n (λ m. SomeHolds signature trace m fs) (λ m. SomeHolds signature (without_empty trace) m fs)
  some_formula_alike signature trace n no_more t full short h = as_itself
  some_formula_alike signature trace n (and_then f fs) t full short h = as_either (formula_alike signature trace n f t.0 full short h) (some_formula_alike signature trace n fs t.1 full short h)

-- entries without actions don't matter to a formula whose times are all bound and have actions
pub without_empty_same : (signature : Signature) (trace : Trace) (m : Assignment) (f : Guarded) → IsTimed zero f → GuardedHolds signature trace m f ↔ GuardedHolds signature (without_empty trace) m f
without_empty_same signature trace m f t = formula_alike signature trace zero f t m m (record { terms = refl; bound_terms = refl; times = λ k l. absurd (omega (arith, l)) })

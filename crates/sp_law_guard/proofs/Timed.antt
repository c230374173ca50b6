-- Each time of a guarded form is bound, and where the form is guarded it stands in an action.
use Rattle.std.proofs.Common.{◌≡◌, ◌⊎◌, ℕ, zero, suc, ◌+◌, true, List, [], ◌∷◌, Some, inl, inr, sym, subst, arith}
use Rattle.std.proofs.lemmas.Bool.{and_parts, eqb-true, or_cases}
use Rattle.sp_spec.specs.Lists.{Every}
use Rattle.sp_spec.specs.Formula.{Formula}
use Rattle.sp_spec.specs.Guarded.{Time, free_time, bound_time, Binder, message, time, Atom, acts, same, same_time, before, last, Guarded, Guardeds, truth, falsity, holds, fails, all_of, one_of, some, every, no_more, and_then}
use Rattle.sp_law_truth.specs.Shown.{times_within, IsTimedAtom, AreTimedAtoms, IsActionAt, HasActionAt, GuardsTimes, IsTimed, AreTimed}
use Rattle.sp_law_guard.specs.GuardedForm.{guarded_form}
use Rattle.sp_law_guard.specs.IsGuarded.{is_time_place, time_guarded, messages_in, times_in, message_guarded, each_guarded, is_guarded, are_guarded}
use Rattle.sp_law_guard.proofs.Throughout.{Throughout, ThroughoutEach, OfAtoms, any_formula, form_throughout}
use Rattle.sp_law_guard.proofs.Places.{action_made, order_made, equality_made}

timed_atoms : OfAtoms IsTimedAtom (λ f. Unit {0})
timed_atoms = record {
  of_actions = λ bs a i atom w e. let r = action_made bs a i atom e in subst (IsTimedAtom _) (sym r.is) r.bounded;
  of_equalities = λ bs t u atom w e. equality_made bs t u atom (IsTimedAtom _) e (λ i j k l. (k, l)) (λ x y k l. tt);
  of_order = λ bs i j atom w e. let r = order_made bs i j atom e in subst (IsTimedAtom _) (sym r.is) (r.first_bound, r.second_bound);
}

-- a guard that guards a time has an action at it
times_counted : (bs : List Binder) (n : ℕ) → times_within bs n ≡ n + times_in bs
times_counted [] n = omega arith
times_counted (message sort ∷ bs) n = times_counted bs n
times_counted (time ∷ bs) n = let e = times_counted bs (suc n) in omega (arith, e)

time_place_is : (k : ℕ) (i : Time) (a : _) → is_time_place k i ≡ true → IsActionAt k (acts a i)
time_place_is k (free_time i) a e = absurd cc
time_place_is k (bound_time j) a e = eqb-true j k e

action_at_time : (k : ℕ) (guard : List Atom) → time_guarded guard k ≡ true → HasActionAt k guard
action_at_time k [] e = absurd cc
action_at_time k (acts a i ∷ guard) e = at (or_cases (is_time_place k i) (time_guarded guard k) e) (action_at_time k guard)
  where
    at : (is_time_place k i ≡ true) ⊎ (time_guarded guard k ≡ true) → (time_guarded guard k ≡ true → HasActionAt k guard) → HasActionAt k (acts a i ∷ guard)
    at (inl e) below = inl (time_place_is k i a e)
    at (inr e) below = inr (below e)
action_at_time k (same t u ∷ guard) e = inr (action_at_time k guard e)
action_at_time k (same_time i j ∷ guard) e = inr (action_at_time k guard e)
action_at_time k (before i j ∷ guard) e = inr (action_at_time k guard e)
action_at_time k (last i ∷ guard) e = inr (action_at_time k guard e)

guards_times : (n : ℕ) (guard : List Atom) (bs : List Binder) → each_guarded n guard bs ≡ true → GuardsTimes bs guard
guards_times n guard [] e = tt
guards_times n guard (message sort ∷ bs) e = guards_times n guard bs (and_parts (message_guarded n guard (messages_in bs)) (each_guarded n guard bs) e).1
guards_times n guard (time ∷ bs) e =
    let r = and_parts (time_guarded guard (times_in bs)) (each_guarded n guard bs) e in
    let k = times_counted bs zero in
    let same : times_in bs ≡ times_within bs zero = omega (arith, k) in
    (subst (λ (k : ℕ). HasActionAt k guard) same (action_at_time (times_in bs) guard r.0), guards_times n guard bs r.1)

atoms_timed : (n : ℕ) (guard : List Atom) → Every (IsTimedAtom n) guard → AreTimedAtoms n guard
atoms_timed n [] e = tt
atoms_timed n (a ∷ guard) e = (e.0, atoms_timed n guard e.1)

mutual
  pub timed : (n : ℕ) (g : Guarded) → Throughout IsTimedAtom n g → is_guarded g ≡ true → IsTimed n g
  timed n truth t e = tt
  timed n falsity t e = tt
  timed n (holds a) t e = t
  timed n (fails a) t e = t
  timed n (all_of gs) t e = each_timed n gs t e
  timed n (one_of gs) t e = each_timed n gs t e
  timed n (some bs guard g) t e =
      let r = and_parts (each_guarded (messages_in bs) guard bs) (is_guarded g) e in
      (guards_times (messages_in bs) guard bs r.0, atoms_timed (times_within bs n) guard t.0, timed (times_within bs n) g t.1 r.1)
  timed n (every bs guard g) t e =
      let r = and_parts (each_guarded (messages_in bs) guard bs) (is_guarded g) e in
      (guards_times (messages_in bs) guard bs r.0, atoms_timed (times_within bs n) guard t.0, timed (times_within bs n) g t.1 r.1)

  each_timed : (n : ℕ) (gs : Guardeds) → ThroughoutEach IsTimedAtom n gs → are_guarded gs ≡ true → AreTimed n gs
  each_timed n no_more t e = tt
  each_timed n (and_then g gs) t e =
      let r = and_parts (is_guarded g) (are_guarded gs) e in
      (timed n g t.0 r.0, each_timed n gs t.1 r.1)

pub form_timed : (f : Formula) (g : Guarded) → guarded_form [] f ≡ Some g → is_guarded g ≡ true → IsTimed zero g
form_timed f g e guarded = timed zero g (form_throughout IsTimedAtom (λ f. Unit {0}) any_formula timed_atoms [] f g tt e) guarded

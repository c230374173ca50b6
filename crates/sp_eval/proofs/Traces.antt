-- Traces in memory have their oldest entry first.
use Rattle.std.proofs.Common.{◌≡◌, ℕ, zero, suc, ◌+◌, ◌-◌, ◌<◌, ◌≤◌, Bool, true, false, ◌==◌, if◌then◌else◌, List, [], ◌∷◌, ◌++◌, length, map, get_or, refl, sym, ap, ◌∙◌, arith}
use Rattle.std.proofs.lemmas.Bool.{eq-eqb, eqb-true, ne_eqb}
use mathlib.Core.List.{append_assoc, append-nil}
use Rattle.sp_spec.proofs.Bools.{same_tests}
use Rattle.sp_spec.proofs.Lists.{newest_count}
use Rattle.sp_spec.specs.Rule.{Action}
use Rattle.sp_spec.specs.Execution.{Trace}
use Rattle.sp_spec.specs.Guarded.{Place, Time, Atom}
use Rattle.sp_law_decide.specs.Deciding.{Environment, by_entry, by_trace, is_among, is_at, by_equalities, with_times, each_by_equalities}
use Rattle.sp_spec.specs.Lists.{newest_first}
use Rattle.sp_eval.specs.declared.environment.Environment as memory
use Rattle.sp_eval.specs.View.{environment_of, environments_of}

module _ {A : Type 0} where
  pub newest_more : (x : A) (xs past : List A) → newest_first (x ∷ xs) ++ past ≡ newest_first xs ++ x ∷ past
  newest_more x xs past = append_assoc (newest_first xs) (x ∷ []) past

-- the position before that of all entries' number is that of the newest
pub at_newest : (p n m : ℕ) → 0 < n → m ≡ n → (p == n - 1) ≡ (suc p == m)
at_newest p n m l e =
    same_tests (p == n - 1) (suc p == m)
    (λ h. let same : p ≡ n - 1 = eqb-true p (n - 1) h in eq-eqb (suc p) m (omega (arith, same, l, e)))
    (λ h. let same : suc p ≡ m = eqb-true (suc p) m h in eq-eqb p (n - 1) (omega (arith, same, l, e)))

-- from a position on, the oldest entry first
abbrev pub onward : Action Place → Time → ℕ → List (List (Action ⊥)) → Environment → List Environment
onward a i p [] env = []
onward a i p (entry ∷ entries) env = by_entry a i p entry env ++ onward a i (suc p) entries env

module _ (a : Action Place) (i : Time) (env : Environment) where
  from_past : (entries : List (List (Action ⊥))) (past : Trace) → by_trace a i (newest_first entries ++ past) env ≡ by_trace a i past env ++ onward a i (length past) entries env
  from_past [] past = sym (append-nil (by_trace a i past env))
  from_past (entry ∷ entries) past =
      ap (λ (t : Trace). by_trace a i t env) (newest_more entry entries past)
      ∙ from_past entries (entry ∷ past)
      ∙ append_assoc (by_trace a i past env) (by_entry a i (length past) entry env) (onward a i (suc (length past)) entries env)

  pub trace_onward : (entries : List (List (Action ⊥))) → by_trace a i (newest_first entries) env ≡ onward a i 0 entries env
  trace_onward entries = ap (λ (t : Trace). by_trace a i t env) (sym (append-nil (newest_first entries))) ∙ from_past entries []

-- the entry at a position
module _ (a : Action ⊥) where
  at_beyond : (past : Trace) (p : ℕ) → length past ≤ p → is_at past p a ≡ false
  at_beyond [] p l = refl
  at_beyond (entry ∷ past) p l = other (p == length past) (is_among a entry) (is_at past p a) (ne_eqb p (length past) (λ e. omega (arith, e, l))) ∙ at_beyond past p (omega (arith, l))
    where
      other : (c x y : Bool) → c ≡ false → (if c then x else y) ≡ y
      other true x y e = absurd cc
      other false x y e = refl

  at_older : (entries : List (List (Action ⊥))) (past : Trace) (p : ℕ) → p < length past → is_at (newest_first entries ++ past) p a ≡ is_at past p a
  at_older [] past p l = refl
  at_older (entry ∷ entries) past p l =
      ap (λ (t : Trace). is_at t p a) (newest_more entry entries past)
      ∙ at_older entries (entry ∷ past) p (omega (arith, l))
      ∙ other (p == length past) (is_among a entry) (is_at past p a) (ne_eqb p (length past) (λ e. omega (arith, e, l)))
    where
      other : (c x y : Bool) → c ≡ false → (if c then x else y) ≡ y
      other true x y e = absurd cc
      other false x y e = refl

  at_from : (entries : List (List (Action ⊥))) (past : Trace) (k : ℕ) (entry : List (Action ⊥)) → k < length entries → entry ≡ get_or entries k entry
      → is_at (newest_first entries ++ past) (length past + k) a ≡ is_among a entry
  at_from [] past k entry l e = absurd (omega (arith, l))
  at_from (first ∷ entries) past zero entry l e =
      ap (λ (t : Trace). is_at t (length past + 0) a) (newest_more first entries past)
      ∙ ap (λ (p : ℕ). is_at (newest_first entries ++ first ∷ past) p a) (let k : length past + 0 ≡ length past = omega arith in k)
      ∙ at_older entries (first ∷ past) (length past) (omega arith)
      ∙ this (length past == length past) (is_among a first) (is_at past (length past) a) (eq-eqb (length past) (length past) refl)
      ∙ ap (is_among a) (sym e)
    where
      this : (c x y : Bool) → c ≡ true → (if c then x else y) ≡ x
      this true x y e = refl
      this false x y e = absurd cc
  at_from (first ∷ entries) past (suc k) entry l e =
      ap (λ (t : Trace). is_at t (length past + suc k) a) (newest_more first entries past)
      ∙ ap (λ (p : ℕ). is_at (newest_first entries ++ first ∷ past) p a) (let j : length past + suc k ≡ suc (length past) + k = omega arith in j)
      ∙ at_from entries (first ∷ past) k entry (omega (arith, l)) e

  pub at_entry : (entries : List (List (Action ⊥))) (p : ℕ) (entry : List (Action ⊥)) → p < length entries → entry ≡ get_or entries p entry → is_at (newest_first entries) p a ≡ is_among a entry
  at_entry entries p entry l e =
      ap (λ (t : Trace). is_at t p a) (sym (append-nil (newest_first entries)))
      ∙ ap (λ (q : ℕ). is_at (newest_first entries ++ []) q a) (let k : p ≡ 0 + p = omega arith in k)
      ∙ at_from entries [] p entry l e

  pub at_end : (entries : List (List (Action ⊥))) (p : ℕ) → length entries ≤ p → is_at (newest_first entries) p a ≡ false
  at_end entries p l = let e = newest_count entries in at_beyond (newest_first entries) p (omega (arith, e, l))

pub mapped_there : {A B : Type 0} (f : A → B) (xs : List A) (k : ℕ) (x : A) → k < length xs → x ≡ get_or xs k x → f x ≡ get_or (map f xs) k (f x)
mapped_there f [] k x l e = absurd (omega (arith, l))
mapped_there f (y ∷ xs) zero x l e = ap f e
mapped_there f (y ∷ xs) (suc k) x l e = mapped_there f xs k x (omega (arith, l)) e

-- one more environment that the equalities complete
pub each_more : (guard : List Atom) (envs : List memory.Environment) (env : memory.Environment)
    → each_by_equalities guard (environments_of (envs ++ env ∷ []))
    ≡ each_by_equalities guard (environments_of envs) ++ with_times (environment_of env).times (by_equalities guard (environment_of env).messages)
each_more guard [] env = append-nil (with_times (environment_of env).times (by_equalities guard (environment_of env).messages))
each_more guard (x ∷ envs) env =
    let first = with_times (environment_of x).times (by_equalities guard (environment_of x).messages) in
    ap (λ r. first ++ r) (each_more guard envs env)
    ∙ sym (append_assoc first (each_by_equalities guard (environments_of envs)) (with_times (environment_of env).times (by_equalities guard (environment_of env).messages)))

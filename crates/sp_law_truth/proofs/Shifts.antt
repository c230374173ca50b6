-- Where the entries of a trace stand once those without actions are left out.
use Rattle.std.proofs.Common.{◌≡◌, ◌⊎◌, ℕ, ◌<◌, List, [], ◌∷◌, length, refl, sym, ◌∙◌, subst, inl, inr, arith}
use Rattle.std.specs.Prelude.{◌↔◌}
use Rattle.std.proofs.lemmas.Bool.{cases_eq, cases_order}
use Rattle.sp_spec.specs.Lists.{Member, AtPosition}
use Rattle.sp_spec.specs.Signature.{Equation}
use Rattle.sp_spec.specs.Rule.{Action}
use Rattle.sp_spec.specs.Execution.{Trace}
use Rattle.sp_spec.specs.Truth.{Acts}
use Rattle.sp_spec.proofs.Lists.{position_below}
use Rattle.sp_law_truth.specs.Shown.{without_empty}

-- the entry at position p has actions, and is at position q of those that have
abbrev pub Shifts : Trace → ℕ → ℕ → Type 0
Shifts [] p q = ⊥
Shifts ([] ∷ past) p q = Shifts past p q
Shifts ((a ∷ actions) ∷ past) p q = ((p ≡ length past) × (q ≡ length (without_empty past))) ⊎ Shifts past p q

-- the position has no entry with actions
abbrev pub IsIdle : Trace → ℕ → Type 0
IsIdle trace p = (q : ℕ) → Shifts trace p q → ⊥

pub shifts_within : (trace : Trace) (p q : ℕ) → Shifts trace p q → (p < length trace) × (q < length (without_empty trace))
shifts_within [] p q s = absurd s
shifts_within ([] ∷ past) p q s = let h = shifts_within past p q s in (omega (arith, h.0), h.1)
shifts_within ((a ∷ actions) ∷ past) p q (inl s) = let e = s.0 in let f = s.1 in (omega (arith, e), omega (arith, f))
shifts_within ((a ∷ actions) ∷ past) p q (inr s) = let h = shifts_within past p q s in (omega (arith, h.0), omega (arith, h.1))

-- each position is idle or is left
pub shifts_or_idle : (trace : Trace) (p : ℕ) → ((q : ℕ) × Shifts trace p q) ⊎ IsIdle trace p
shifts_or_idle [] p = inr (λ q s. s)
shifts_or_idle ([] ∷ past) p = shifts_or_idle past p
shifts_or_idle ((a ∷ actions) ∷ past) p = at (shifts_or_idle past p) (cases_eq p (length past))
  where
    at : ((q : ℕ) × Shifts past p q) ⊎ IsIdle past p → (p ≡ length past) ⊎ (p ≡ length past → ⊥) → ((q : ℕ) × Shifts ((a ∷ actions) ∷ past) p q) ⊎ IsIdle ((a ∷ actions) ∷ past) p
    at (inl s) e = inl (s.0, inr s.1)
    at (inr idle) (inl e) = inl (length (without_empty past), inl (e, refl))
    at (inr idle) (inr e) = inr (none idle e)
      where
        none : IsIdle past p → (p ≡ length past → ⊥) → (q : ℕ) → Shifts ((a ∷ actions) ∷ past) p q → ⊥
        none idle e q (inl s) = e s.0
        none idle e q (inr s) = idle q s

-- each entry that is left comes from a position
pub shifts_from : (trace : Trace) (q : ℕ) → q < length (without_empty trace) → (p : ℕ) × Shifts trace p q
shifts_from [] q h = absurd (omega (arith, h))
shifts_from ([] ∷ past) q h = shifts_from past q h
shifts_from ((a ∷ actions) ∷ past) q h = at (cases_order q (length (without_empty past))) (λ l. shifts_from past q l)
  where
    at : (q ≡ length (without_empty past)) ⊎ ((q < length (without_empty past)) ⊎ (length (without_empty past) < q))
        → (q < length (without_empty past) → (p : ℕ) × Shifts past p q) → (p : ℕ) × Shifts ((a ∷ actions) ∷ past) p q
    at (inl e) below = (length past, inl (refl, e))
    at (inr (inl l)) below = let s = below l in (s.0, inr s.1)
    at (inr (inr l)) below = absurd (omega (arith, h, l))

pub shifts_rises : (trace : Trace) (p q r s : ℕ) → Shifts trace p q → Shifts trace r s → p < r → q < s
shifts_rises [] p q r s h k l = absurd h
shifts_rises ([] ∷ past) p q r s h k l = shifts_rises past p q r s h k l
shifts_rises ((a ∷ actions) ∷ past) p q r s (inl h) (inl k) l = let e = h.0 in let f = k.0 in absurd (omega (arith, l, e, f))
shifts_rises ((a ∷ actions) ∷ past) p q r s (inl h) (inr k) l = let e = h.0 in let f = (shifts_within past r s k).0 in absurd (omega (arith, l, e, f))
shifts_rises ((a ∷ actions) ∷ past) p q r s (inr h) (inl k) l = let e = k.1 in let f = (shifts_within past p q h).1 in omega (arith, e, f)
shifts_rises ((a ∷ actions) ∷ past) p q r s (inr h) (inr k) l = shifts_rises past p q r s h k l

pub shifts_same : (trace : Trace) (p q s : ℕ) → Shifts trace p q → Shifts trace p s → q ≡ s
shifts_same [] p q s h k = absurd h
shifts_same ([] ∷ past) p q s h k = shifts_same past p q s h k
shifts_same ((a ∷ actions) ∷ past) p q s (inl h) (inl k) = h.1 ∙ sym k.1
shifts_same ((a ∷ actions) ∷ past) p q s (inl h) (inr k) = let e = h.0 in let f = (shifts_within past p s k).0 in absurd (omega (arith, e, f))
shifts_same ((a ∷ actions) ∷ past) p q s (inr h) (inl k) = let e = k.0 in let f = (shifts_within past p q h).0 in absurd (omega (arith, e, f))
shifts_same ((a ∷ actions) ∷ past) p q s (inr h) (inr k) = shifts_same past p q s h k

pub shifts_reflects_less : (trace : Trace) (p q r s : ℕ) → Shifts trace p q → Shifts trace r s → q < s → p < r
shifts_reflects_less trace p q r s h k l = at (cases_order p r)
  where
    at : (p ≡ r) ⊎ ((p < r) ⊎ (r < p)) → p < r
    at (inl e) = let f = shifts_same trace r q s (subst (λ (x : ℕ). Shifts trace x q) e h) k in absurd (omega (arith, l, f))
    at (inr (inl m)) = m
    at (inr (inr m)) = let f = shifts_rises trace r s p q k h m in absurd (omega (arith, l, f))

pub shifts_reflects_same : (trace : Trace) (p q r s : ℕ) → Shifts trace p q → Shifts trace r s → q ≡ s → p ≡ r
shifts_reflects_same trace p q r s h k e = at (cases_order p r)
  where
    at : (p ≡ r) ⊎ ((p < r) ⊎ (r < p)) → p ≡ r
    at (inl f) = f
    at (inr (inl m)) = let f = shifts_rises trace p q r s h k m in absurd (omega (arith, e, f))
    at (inr (inr m)) = let f = shifts_rises trace r s p q k h m in absurd (omega (arith, e, f))

-- an entry that is left stands at its new position
pub shifts_entry : (trace : Trace) (p q : ℕ) → Shifts trace p q → (entry : List (Action ⊥)) → AtPosition trace p entry ↔ AtPosition (without_empty trace) q entry
shifts_entry [] p q s entry = absurd s
shifts_entry ([] ∷ past) p q s entry = let h = shifts_entry past p q s entry in (forth h.0, (λ x. inr (h.1 x)))
  where
    forth : (AtPosition past p entry → AtPosition (without_empty past) q entry) → AtPosition ([] ∷ past) p entry → AtPosition (without_empty past) q entry
    forth h (inl x) = let e = x.0 in let l = (shifts_within past p q s).0 in absurd (omega (arith, e, l))
    forth h (inr x) = h x
shifts_entry ((a ∷ actions) ∷ past) p q (inl s) entry = (forth, back)
  where
    forth : AtPosition ((a ∷ actions) ∷ past) p entry → AtPosition ((a ∷ actions) ∷ without_empty past) q entry
    forth (inl x) = inl (s.1, x.1)
    forth (inr x) = let e = s.0 in let l = position_below past p entry x in absurd (omega (arith, e, l))

    back : AtPosition ((a ∷ actions) ∷ without_empty past) q entry → AtPosition ((a ∷ actions) ∷ past) p entry
    back (inl x) = inl (s.0, x.1)
    back (inr x) = let e = s.1 in let l = position_below (without_empty past) q entry x in absurd (omega (arith, e, l))
shifts_entry ((a ∷ actions) ∷ past) p q (inr s) entry = let h = shifts_entry past p q s entry in (forth h.0, back h.1)
  where
    forth : (AtPosition past p entry → AtPosition (without_empty past) q entry) → AtPosition ((a ∷ actions) ∷ past) p entry → AtPosition ((a ∷ actions) ∷ without_empty past) q entry
    forth h (inl x) = let e = x.0 in let l = (shifts_within past p q s).0 in absurd (omega (arith, e, l))
    forth h (inr x) = inr (h x)

    back : (AtPosition (without_empty past) q entry → AtPosition past p entry) → AtPosition ((a ∷ actions) ∷ without_empty past) q entry → AtPosition ((a ∷ actions) ∷ past) p entry
    back h (inl x) = let e = x.0 in let l = (shifts_within past p q s).1 in absurd (omega (arith, e, l))
    back h (inr x) = inr (h x)

-- an entry that has an action is left
pub position_shifts : (trace : Trace) (p : ℕ) (entry : List (Action ⊥)) (shown : Action ⊥) → AtPosition trace p entry → Member shown entry → (q : ℕ) × Shifts trace p q
position_shifts [] p entry shown h m = absurd h
position_shifts ([] ∷ past) p entry shown (inl h) m = absurd (subst (λ (e : List (Action ⊥)). Member shown e) (sym h.1) m)
position_shifts ([] ∷ past) p entry shown (inr h) m = position_shifts past p entry shown h m
position_shifts ((a ∷ actions) ∷ past) p entry shown (inl h) m = (length (without_empty past), inl (h.0, refl))
position_shifts ((a ∷ actions) ∷ past) p entry shown (inr h) m = let s = position_shifts past p entry shown h m in (s.0, inr s.1)

-- an idle position has no action
pub idle_acts : (es : List Equation) (trace : Trace) (p : ℕ) (action : Action ⊥) → IsIdle trace p → Acts es trace p action → ⊥
idle_acts es trace p action idle h = let s = position_shifts trace p h.0 h.2 h.1 h.3 in idle s.0 s.1

-- the same actions are at an entry's new position
pub shifts_acts : (es : List Equation) (trace : Trace) (p q : ℕ) (action : Action ⊥) → Shifts trace p q → Acts es trace p action ↔ Acts es (without_empty trace) q action
shifts_acts es trace p q action s =
    ((λ h. (h.0, (shifts_entry trace p q s h.0).0 h.1, h.2, h.3, h.4)), (λ h. (h.0, (shifts_entry trace p q s h.0).1 h.1, h.2, h.3, h.4)))

-- Leaving out actions that a formula doesn't name keeps its truth.
use Rattle.std.proofs.Common.{◌≡◌, ℕ, Bool, true, false, cond, ◌||◌, List, [], ◌∷◌, length, refl, sym, ap, ◌∙◌, subst, inl, inr, arith}
use Rattle.std.specs.Prelude.{◌↔◌}
use Rattle.std.specs.Str.{bytes_eq}
use Rattle.std.proofs.lemmas.Slice.Eq.{bytes_eq-Decides}
use Rattle.sp_spec.specs.Lists.{Member, Every, AtPosition, is_listed}
use Rattle.sp_spec.specs.Signature.{Equation, Signature}
use Rattle.sp_spec.specs.Rule.{Action, SameAction}
use Rattle.sp_spec.specs.Execution.{Trace}
use Rattle.sp_spec.specs.Truth.{Acts}
use Rattle.sp_spec.specs.Guarded.{Guarded, Assignment, GuardedHolds}
use Rattle.sp_law_truth.specs.Shown.{only_actions, only, action_names}
use Rattle.sp_law_equal.proofs.Chains.{same_action_sym, same_action_trans}
use Rattle.sp_law_truth.proofs.ActsAlike.{ActsAlike, equal_assignment, formula_alike}
use Rattle.sp_spec.proofs.Listed.{listed_member}

pub is_among_member : (s : List ℕ) (names : List (List ℕ)) → is_listed s names ≡ true → Member s names
is_among_member s [] h = cc
is_among_member s (name ∷ names) h = at (bytes_eq name s) refl h (is_among_member s names)
  where
    at : (b : Bool) → bytes_eq name s ≡ b → (b || is_listed s names) ≡ true → (is_listed s names ≡ true → Member s names) → Member s (name ∷ names)
    at true e h below = inl ((bytes_eq-Decides name s).0 e)
    at false e h below = inr (below h)

pub only_length : (names : List (List ℕ)) (trace : Trace) → length (only names trace) ≡ length trace
only_length names [] = refl
only_length names (entry ∷ trace) = let h = only_length names trace in grind (arith, h)

pub only_position : (names : List (List ℕ)) (trace : Trace) (p : ℕ) (entry : List (Action ⊥)) → AtPosition trace p entry → AtPosition (only names trace) p (only_actions names entry)
only_position names [] p entry h = absurd h
only_position names (e ∷ trace) p entry (inl h) = inl (h.0 ∙ sym (only_length names trace), ap (only_actions names) h.1)
only_position names (e ∷ trace) p entry (inr h) = inr (only_position names trace p entry h)

-- an entry of what is left is what is left of an entry
pub position_only : (names : List (List ℕ)) (trace : Trace) (p : ℕ) (kept : List (Action ⊥)) → AtPosition (only names trace) p kept
    → (entry : List (Action ⊥)) × AtPosition trace p entry × (only_actions names entry ≡ kept)
position_only names [] p kept h = absurd h
position_only names (e ∷ trace) p kept (inl h) = (e, inl (h.0 ∙ only_length names trace, refl), h.1)
position_only names (e ∷ trace) p kept (inr h) = let r = position_only names trace p kept h in (r.0, inr r.1, r.2)

pub only_member : (names : List (List ℕ)) (actions : List (Action ⊥)) (a : Action ⊥) → Member a.symbol names → Member a actions → Member a (only_actions names actions)
only_member names [] a named m = absurd m
only_member names (b ∷ actions) a named (inl e) = rw (ap (λ (x : Action ⊥). is_listed x.symbol names) e ∙ listed_member a.symbol names named) (inl e)
only_member names (b ∷ actions) a named (inr m) = at (is_listed b.symbol names) (only_member names actions a named m)
  where
    at : (t : Bool) → Member a (only_actions names actions) → Member a (cond t (b ∷ only_actions names actions) (only_actions names actions))
    at true h = inr h
    at false h = h

pub member_only : (names : List (List ℕ)) (actions : List (Action ⊥)) (a : Action ⊥) → Member a (only_actions names actions) → Member a actions
member_only names [] a m = absurd m
member_only names (b ∷ actions) a m = at (is_listed b.symbol names) m (member_only names actions a)
  where
    at : (t : Bool) → Member a (cond t (b ∷ only_actions names actions) (only_actions names actions)) → (Member a (only_actions names actions) → Member a actions) → Member a (b ∷ actions)
    at true (inl e) below = inl e
    at true (inr h) below = inr (below h)
    at false h below = inr (below h)

pub only_acts_alike : (es : List Equation) (names : List (List ℕ)) (trace : Trace) → ActsAlike es (λ s. Member s names) trace (only names trace)
only_acts_alike es names trace = record { lengths = sym (only_length names trace); acts = λ p a b named e. (forth p a b named e, back p a b named e) }
  where
    forth : (p : ℕ) (a b : Action ⊥) → Member a.symbol names → SameAction es a b → Acts es trace p a → Acts es (only names trace) p b
    forth p a b named e h = (
      only_actions names h.0,
      only_position names trace p h.0 h.1,
      h.2,
      only_member names h.0 h.2 (subst (λ (s : List ℕ). Member s names) h.4.0 named) h.3,
      same_action_trans es b a h.2 (same_action_sym es a b e) h.4,
    )

    back : (p : ℕ) (a b : Action ⊥) → Member a.symbol names → SameAction es a b → Acts es (only names trace) p b → Acts es trace p a
    back p a b named e h =
        let r = position_only names trace p h.0 h.1 in
        let m = subst (λ (kept : List (Action ⊥)). Member h.2 kept) (sym r.2) h.3 in
        (r.0, r.1, h.2, member_only names r.0 h.2 m, same_action_trans es a b h.2 e h.4)

-- actions of other symbols don't matter
pub only_same : (signature : Signature) (names : List (List ℕ)) (trace : Trace) (m : Assignment) (f : Guarded) → Every (λ s. Member s names) (action_names f)
    → GuardedHolds signature trace m f ↔ GuardedHolds signature (only names trace) m f
only_same signature names trace m f named =
    formula_alike signature (λ s. Member s names) trace (only names trace) (only_acts_alike signature.equations names trace) f named m m (equal_assignment signature.equations m)

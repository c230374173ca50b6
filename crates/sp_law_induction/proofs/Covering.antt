-- The cases of induction cover each trace that meets the restrictions and breaks the lemma.
use Rattle.std.proofs.Common.{◌≡◌, ◌⊎◌, zero, true, List, [], ◌∷◌, refl, inl, inr}
use Rattle.sp_spec.specs.Lists.{Every, Classically}
use Rattle.sp_spec.specs.Signature.{Signature}
use Rattle.sp_spec.specs.Execution.{Trace}
use Rattle.sp_spec.specs.Guarded.{Guarded, Assignment, GuardedHolds}
use Rattle.sp_law_truth.specs.Shown.{IsTimed}
use Rattle.sp_law_truth.proofs.Stable.{classically}
use Rattle.sp_law_truth.proofs.StableGuarded.{stable_guarded}
use Rattle.sp_law_guard.specs.GuardedForm.{negate}
use Rattle.sp_law_guard.proofs.Joined.{disjunction_either}
use Rattle.sp_law_guard.proofs.Turned.{turned}
use Rattle.sp_law_induction.specs.Hypothesis.{is_safety}
use Rattle.sp_law_induction.specs.Prefix.{IsPrefix, IsProperPrefix}
use Rattle.sp_law_induction.specs.Covering.{safe_among, others_among, inductive, induction_form, StartsOrFollows, IsCase}
use Rattle.sp_law_induction.proofs.Hypothesis.{hypothesis_of_past}
use Rattle.sp_law_induction.proofs.Safety.{safety_over_prefix}
use Rattle.sp_law_induction.proofs.Sides.{every_safe, every_other, every_side, safe_are_safe}
use Rattle.sp_law_induction.proofs.Shortest.{shortest_classical}
use Rattle.sp_law_induction.proofs.Timed.{inductive_timed}

module _ (signature : Signature) (m : Assignment) where
  abbrev Over : Trace → Guarded → Type 0
  Over trace f = GuardedHolds signature trace m f

  -- false exactly where the restrictions are true and the lemma is false
  inductive_false : (trace : Trace) (others : List Guarded) (lemma : Guarded) → Every (Over trace) others → (Over trace lemma → ⊥) → Over trace (inductive others lemma) → ⊥
  inductive_false trace [] lemma e u h = u h
  inductive_false trace (f ∷ others) lemma e u h = (disjunction_either signature trace m (negate f) (inductive others lemma)).0 h (at (inductive_false trace others lemma e.1 u))
    where
      at : (Over trace (inductive others lemma) → ⊥) → Over trace (negate f) ⊎ Over trace (inductive others lemma) → ⊥
      at below (inl x) = (turned signature trace f m).0 x e.0
      at below (inr x) = below x

  restrictions_true : (trace : Trace) (others : List Guarded) (lemma : Guarded) → (Over trace (inductive others lemma) → ⊥) → Every (Over trace) others
  restrictions_true trace [] lemma u = tt
  restrictions_true trace (f ∷ others) lemma u =
      let either = (disjunction_either signature trace m (negate f) (inductive others lemma)).1 in (
        stable_guarded signature trace m f (λ n. u (either (λ none. none (inl ((turned signature trace f m).1 n))))),
        restrictions_true trace others lemma (λ x. u (either (λ none. none (inr x)))),
      )

  lemma_untrue : (trace : Trace) (others : List Guarded) (lemma : Guarded) → (Over trace (inductive others lemma) → ⊥) → Over trace lemma → ⊥
  lemma_untrue trace [] lemma u = u
  lemma_untrue trace (f ∷ others) lemma u =
      lemma_untrue trace others lemma (λ x. u ((disjunction_either signature trace m (negate f) (inductive others lemma)).1 (λ none. none (inr x))))

  safe_before : (trace older : Trace) → IsPrefix older trace → (safe : List Guarded) → Every (IsTimed zero) safe → Every (λ f. is_safety f ≡ true) safe
      → Every (Over trace) safe → Every (Over older) safe
  safe_before trace older p [] t s h = tt
  safe_before trace older p (f ∷ safe) t s h = (safety_over_prefix signature trace older p m f t.0 s.0 h.0, safe_before trace older p safe t.1 s.1 h.1)

  started : (f : Guarded) → IsTimed zero f → (older : Trace) → ((oldest : Trace) → IsProperPrefix oldest older → Over oldest f) → StartsOrFollows signature m f older
  started f t [] before = tt
  started f t (entry ∷ past) before = (hypothesis_of_past signature entry past m f t).1 (before past (entry, ([], refl)))

  pub covers : (restrictions : List Guarded) (lemma : Guarded) → Every (IsTimed zero) restrictions → IsTimed zero lemma
      → (trace : Trace) → Every (Over trace) restrictions → (Over trace lemma → ⊥) → Classically ((older : Trace) × IsCase signature m restrictions lemma trace older)
  covers restrictions lemma t tl trace h u =
      let safe = safe_among restrictions in
      let others = others_among restrictions in
      let f = induction_form restrictions lemma in
      let safe_timed = every_safe (IsTimed zero) restrictions t in
      classically (λ x. (
        x.0,
        record {
          prefix = x.1.prefix;
          restrictions_true = every_side (Over x.0) restrictions (safe_before trace x.0 x.1.prefix safe safe_timed (safe_are_safe restrictions) (every_safe (Over trace) restrictions h))
              (restrictions_true x.0 others lemma x.1.untrue);
          lemma_false = lemma_untrue x.0 others lemma x.1.untrue;
          negated = (turned signature x.0 f m).1 x.1.untrue;
          start = started f (inductive_timed others lemma (every_other (IsTimed zero) restrictions t) tl) x.0 x.1.before;
        },
      ))
      (shortest_classical (λ (t : Trace). Over t f) trace (inductive_false trace others lemma (every_other (Over trace) restrictions h) u))

-- A formula sees of a trace what is shown of it.
use Rattle.std.proofs.Common.{◌≡◌, ℕ, zero, Bool, true, false, if◌then◌else◌, List, [], ◌∷◌, ap}
use Rattle.std.specs.Prelude.{◌↔◌}
use Rattle.sp_spec.specs.Lists.{Member, Every, is_listed}
use Rattle.sp_spec.specs.Signature.{Equation, Signature}
use Rattle.sp_spec.specs.Rule.{Action}
use Rattle.sp_spec.specs.Execution.{Trace, with_entry}
use Rattle.sp_spec.specs.Guarded.{Guarded, Assignment, GuardedHolds}
use Rattle.sp_law_truth.specs.Shown.{only_actions, only, shown, action_names, IsTimed}
use Rattle.sp_law_truth.specs.Same.{SameActions, EqualTraces}
use Rattle.sp_law_truth.proofs.AsTrue.{as_turned, as_through}
use Rattle.sp_law_truth.proofs.ActsAlike.{equal_assignment}
use Rattle.sp_law_truth.proofs.WithoutEmpty.{without_empty_same}
use Rattle.sp_law_truth.proofs.Only.{only_same}
use Rattle.sp_law_truth.proofs.EqualTraces.{equal_same}

pub shown_same : (signature : Signature) (names : List (List ℕ)) (trace : Trace) (m : Assignment) (f : Guarded) → IsTimed zero f → Every (λ s. Member s names) (action_names f)
    → GuardedHolds signature trace m f ↔ GuardedHolds signature (shown names trace) m f
shown_same signature names trace m f timed named = as_through (only_same signature names trace m f named) (without_empty_same signature (only names trace) m f timed)

-- traces of which equal things are shown
pub equal_shown_same : (signature : Signature) (names : List (List ℕ)) (trace other : Trace) → EqualTraces signature.equations (shown names trace) (shown names other)
    → (m : Assignment) (f : Guarded) → IsTimed zero f → Every (λ s. Member s names) (action_names f) → GuardedHolds signature trace m f ↔ GuardedHolds signature other m f
equal_shown_same signature names trace other e m f timed named =
    as_through (shown_same signature names trace m f timed named)
    (as_through (equal_same signature (shown names trace) (shown names other) e m m (equal_assignment signature.equations m) f) (as_turned (shown_same signature names other m f timed named)))

-- equal traces show equal traces
module _ (es : List Equation) (names : List (List ℕ)) where
  same_only : (xs ys : List (Action ⊥)) → SameActions es xs ys → SameActions es (only_actions names xs) (only_actions names ys)
  same_only [] [] h = tt
  same_only [] (y ∷ ys) h = absurd h
  same_only (x ∷ xs) [] h = absurd h
  same_only (x ∷ xs) (y ∷ ys) h = at (is_listed x.symbol names) (is_listed y.symbol names) (ap (λ (s : List ℕ). is_listed s names) h.0.0) (same_only xs ys h.1)
    where
      at : (b c : Bool) → b ≡ c → SameActions es (only_actions names xs) (only_actions names ys)
          → SameActions es (if b then x ∷ only_actions names xs else only_actions names xs) (if c then y ∷ only_actions names ys else only_actions names ys)
      at true true e k = (h.0, k)
      at true false e k = absurd cc
      at false true e k = absurd cc
      at false false e k = k

  with_same : (xs ys : List (Action ⊥)) (trace other : Trace) → SameActions es xs ys → EqualTraces es trace other → EqualTraces es (with_entry xs trace) (with_entry ys other)
  with_same [] [] trace other h k = k
  with_same [] (y ∷ ys) trace other h k = absurd h
  with_same (x ∷ xs) [] trace other h k = absurd h
  with_same (x ∷ xs) (y ∷ ys) trace other h k = (h, k)

  pub equal_shown : (trace other : Trace) → EqualTraces es trace other → EqualTraces es (shown names trace) (shown names other)
  equal_shown [] [] h = tt
  equal_shown [] (ys ∷ other) h = absurd h
  equal_shown (xs ∷ trace) [] h = absurd h
  equal_shown (xs ∷ trace) (ys ∷ other) h =
      with_same (only_actions names xs) (only_actions names ys) (shown names trace) (shown names other) (same_only xs ys h.0) (equal_shown trace other h.1)

-- Equal values, and traces with equal actions, keep the truth of formulas.
use Rattle.std.proofs.Common.{ℕ, List}
use Rattle.std.specs.Prelude.{◌↔◌}
use Rattle.sp_spec.specs.Signature.{Equation, Signature}
use Rattle.sp_spec.specs.Rule.{Action, SameAction}
use Rattle.sp_spec.specs.Execution.{Trace}
use Rattle.sp_spec.specs.Truth.{Acts}
use Rattle.sp_spec.specs.Guarded.{Guarded, Assignment, GuardedHolds}
use Rattle.sp_spec.proofs.Lists.{every_all}
use Rattle.sp_law_truth.specs.Shown.{action_names}
use Rattle.sp_law_truth.specs.Same.{SameActions, EqualTraces, EqualAssignments}
use Rattle.sp_law_equal.proofs.Pointwise.{each_with_sym, each_with_length, each_with_member, each_with_position}
use Rattle.sp_law_equal.proofs.Chains.{same_action_sym, same_action_trans}
use Rattle.sp_law_truth.proofs.ActsAlike.{ActsAlike, formula_alike}

module _ (es : List Equation) where
  pub equal_traces_sym : (trace other : Trace) → EqualTraces es trace other → EqualTraces es other trace
  equal_traces_sym = each_with_sym (SameActions es) (SameActions es) (each_with_sym (SameAction es) (SameAction es) (same_action_sym es))

  -- equal actions stand at the same positions
  pub equal_traces_acts : (trace other : Trace) → EqualTraces es trace other → (p : ℕ) (a b : Action ⊥) → SameAction es a b → Acts es trace p a → Acts es other p b
  equal_traces_acts trace other e p a b same h =
      let r = each_with_position (SameActions es) trace other e p h.0 h.1 in
      let s = each_with_member (SameAction es) h.0 r.0 r.2 h.2 h.3 in
      (r.0, r.1, s.0, s.1, same_action_trans es b a s.0 (same_action_sym es a b same) (same_action_trans es a h.2 s.0 h.4 s.2))

  pub equal_traces_act_alike : (IsNamed : List ℕ → Type 0) (trace other : Trace) → EqualTraces es trace other → ActsAlike es IsNamed trace other
  equal_traces_act_alike IsNamed trace other e = record {
    lengths = each_with_length (SameActions es) trace other e;
    acts = λ p a b named same. (
      equal_traces_acts trace other e p a b same,
      equal_traces_acts other trace (equal_traces_sym trace other e) p b a (same_action_sym es a b same),
    );
  }

pub equal_same : (signature : Signature) (trace other : Trace) → EqualTraces signature.equations trace other
    → (m w : Assignment) → EqualAssignments signature.equations m w → (f : Guarded) → GuardedHolds signature trace m f ↔ GuardedHolds signature other w f
equal_same signature trace other e m w h f =
    formula_alike signature (λ s. Unit {0}) trace other (equal_traces_act_alike signature.equations (λ s. Unit {0}) trace other e) f (every_all _ (λ s. tt) (action_names f)) m w h

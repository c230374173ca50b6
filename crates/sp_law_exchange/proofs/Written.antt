-- Written formulas with a guarded form whose names stay are as true with other names.
use Rattle.std.proofs.Common.{◌≡◌, Some, List, [], ◌∷◌}
use Rattle.std.specs.Prelude.{◌↔◌}
use Rattle.sp_spec.specs.Lists.{Every}
use Rattle.sp_spec.specs.Signature.{Signature}
use Rattle.sp_spec.specs.Formula.{Formula}
use Rattle.sp_spec.specs.Theory.{Theory, Restriction, signature_of}
use Rattle.sp_spec.specs.Truth.{IsTrueOver}
use Rattle.sp_spec.specs.Execution.{Trace}
use Rattle.sp_spec.specs.Verdict.{MeetsRestrictions}
use Rattle.sp_spec.specs.Guarded.{Guarded, Assignment, GuardedHolds}
use Rattle.sp_spec.specs.Term.{constant}
use Rattle.sp_law_truth.proofs.AsTrue.{as_itself, as_both, as_not, as_turned, as_through}
use Rattle.sp_law_equal.specs.Right.{HaveNoNames}
use Rattle.sp_spec_system.specs.Numbered.{InFormula}
use Rattle.sp_spec_system.specs.Solutions.{assignment}
use Rattle.sp_law_guard.specs.GuardedForm.{negate, guarded_form}
use Rattle.sp_law_guard.proofs.Kept.{form_kept}
use Rattle.sp_law_guard.proofs.Turned.{turned}
use Rattle.sp_law_exchange.specs.Renaming.{Renaming, trace_renamed, assignment_renamed, kept_by, IsOneToOne}
use Rattle.sp_law_exchange.specs.Laws.{any_variable, any_time, FormKept}
use Rattle.sp_law_exchange.proofs.Truth.{truth_renamed}

module _ (signature : Signature) (without : HaveNoNames signature.equations) (r : Renaming) (one : IsOneToOne r) where
  pub written_renamed : (f : Formula) → FormKept r f → (trace : Trace) → IsTrueOver signature trace f ↔ IsTrueOver signature (trace_renamed r trace) f
  written_renamed f h trace =
      let anything : Assignment = assignment (record { terms = λ x. constant []; times = λ i. i }) in
      as_through (form_kept signature trace f h.0 h.1 anything)
      (as_through (truth_renamed signature without r one h.0 h.2 trace anything) (as_turned (form_kept signature (trace_renamed r trace) f h.0 h.1 (assignment_renamed r anything))))

  pub form_renamed : (f : Formula) (h : FormKept r f) → (trace : Trace) (m w : Assignment) → GuardedHolds signature trace m h.0 ↔ GuardedHolds signature (trace_renamed r trace) w h.0
  form_renamed f h trace m w =
      as_through (as_turned (form_kept signature trace f h.0 h.1 m)) (as_through (written_renamed f h trace) (form_kept signature (trace_renamed r trace) f h.0 h.1 w))

  pub negation_renamed : (f : Formula) (h : FormKept r f) → (trace : Trace) (m w : Assignment) → GuardedHolds signature trace m (negate h.0) ↔ GuardedHolds signature (trace_renamed r trace) w (negate h.0)
  negation_renamed f h trace m w =
      as_through (turned signature trace h.0 m) (as_through (as_not (form_renamed f h trace m w)) (as_turned (turned signature (trace_renamed r trace) h.0 w)))

  -- the values don't matter for a form's negation
  negation_at : (trace : Trace) (f : Formula) (g : Guarded) → guarded_form [] f ≡ Some g → (m w : Assignment) → GuardedHolds signature trace m (negate g) ↔ GuardedHolds signature trace w (negate g)
  negation_at trace f g e m w =
      as_through (turned signature trace g m)
      (as_through (as_not (as_through (as_turned (form_kept signature trace f g e m)) (form_kept signature trace f g e w))) (as_turned (turned signature trace g w)))

  pub negated_renamed : (f : Formula) (g : Guarded) → guarded_form [] f ≡ Some g → InFormula (kept_by r) any_variable any_time (negate g)
      → (trace : Trace) (m w : Assignment) → GuardedHolds signature trace m (negate g) ↔ GuardedHolds signature (trace_renamed r trace) w (negate g)
  negated_renamed f g e k trace m w = as_through (truth_renamed signature without r one (negate g) k trace m) (negation_at (trace_renamed r trace) f g e (assignment_renamed r m) w)

  each_renamed : (rs : List Restriction) → Every (λ (x : Restriction). FormKept r x.formula) rs
      → (trace : Trace) → Every (λ (x : Restriction). IsTrueOver signature trace x.formula) rs ↔ Every (λ (x : Restriction). IsTrueOver signature (trace_renamed r trace) x.formula) rs
  each_renamed [] h trace = as_itself
  each_renamed (x ∷ rs) h trace = as_both (written_renamed x.formula h.0 trace) (each_renamed rs h.1 trace)

pub restrictions_renamed :
    (theory : Theory) → HaveNoNames (signature_of theory).equations → (r : Renaming) → IsOneToOne r → Every (λ (x : Restriction). FormKept r x.formula) theory.restrictions
    → (trace : Trace) → MeetsRestrictions theory trace ↔ MeetsRestrictions theory (trace_renamed r trace)
restrictions_renamed theory without r one h trace = each_renamed (signature_of theory) without r one theory.restrictions h trace

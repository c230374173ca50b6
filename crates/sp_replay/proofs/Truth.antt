-- What is decided over the normal form of a trace is true over the trace.
use Rattle.std.proofs.Common.{◌≡◌, true, List, [], ◌∷◌, map, Some, refl}
use Rattle.std.specs.Prelude.{◌↔◌, IsTrue}
use Rattle.sp_spec.specs.Lists.{Every}
use Rattle.sp_spec.specs.Signature.{Signature, AreOver}
use Rattle.sp_spec.specs.Rule.{Action}
use Rattle.sp_spec.specs.Formula.{Formula, truth, falsity, happens, equals, precedes, not_so, both, either, implies, for_all, for_some}
use Rattle.sp_spec.specs.Theory.{Theory, signature_of}
use Rattle.sp_spec.specs.Execution.{Step, Trace, IsExecution}
use Rattle.sp_spec.specs.Truth.{IsTrueOver}
use Rattle.sp_spec.specs.Guarded.{Guarded}
use Rattle.sp_law_equal.specs.NormalForms.{HaveNormalForms, KeepSymbols}
use Rattle.sp_law_equal.specs.Normal.{normal_action}
use Rattle.sp_law_equal.proofs.Forms.{to_normal_all, are_normal}
use Rattle.sp_law_truth.specs.Same.{SameActions, EqualTraces}
use Rattle.sp_law_truth.proofs.ActsAlike.{equal_assignment}
use Rattle.sp_law_truth.proofs.AsTrue.{as_turned, as_through}
use Rattle.sp_law_truth.proofs.EqualTraces.{equal_same}
use Rattle.sp_law_guard.specs.GuardedForm.{guarded_form}
use Rattle.sp_law_guard.specs.IsGuarded.{is_guarded}
use Rattle.sp_law_guard.proofs.Kept.{form_kept}
use Rattle.sp_law_run.specs.NormalStep.{normal_trace}
use Rattle.sp_law_equal.specs.Right.{RulesAreOver}
use Rattle.sp_law_run.specs.Laws.{IsTraceOver}
use Rattle.sp_law_run.proofs.Over.{execution_over, normal_trace_over}
use Rattle.sp_law_decide.specs.Deciding.{assignment_of, decided, empty}
use Rattle.sp_law_decide.specs.Normal.{IsNormalAction, IsNormalTrace, HasConstructorTerms, CanDecide}
use Rattle.sp_law_decide.proofs.ConstructorForms.{form_keeps}
use Rattle.sp_law_decide.proofs.Told.{told}
use Rattle.sp_law_basic.specs.BasicTheory.{IsBasicFormula}

-- ---- a basic formula has constructor terms

pub formula_constructors : (signature : Signature) (f : Formula) → IsBasicFormula signature f → HasConstructorTerms signature f
formula_constructors signature truth h = tt
formula_constructors signature falsity h = tt
formula_constructors signature (happens a i) h = h.0
formula_constructors signature (equals t u) h = (h.0.0, h.1.0)
formula_constructors signature (precedes i j) h = tt
formula_constructors signature (not_so f) h = formula_constructors signature f h
formula_constructors signature (both f g) h = (formula_constructors signature f h.0, formula_constructors signature g h.1)
formula_constructors signature (either f g) h = (formula_constructors signature f h.0, formula_constructors signature g h.1)
formula_constructors signature (implies f g) h = (formula_constructors signature f h.0, formula_constructors signature g h.1)
formula_constructors signature (for_all x f) h = formula_constructors signature f h
formula_constructors signature (for_some x f) h = formula_constructors signature f h

-- ---- a trace and its normal form

module _ (signature : Signature) where
  actions_equal : (actions : List (Action ⊥)) → SameActions signature.equations actions (map (normal_action signature.equations) actions)
  actions_equal [] = tt
  actions_equal (a ∷ actions) = ((refl, to_normal_all signature.equations a.args), actions_equal actions)

  trace_equal : (trace : Trace) → EqualTraces signature.equations trace (normal_trace signature.equations trace)
  trace_equal [] = tt
  trace_equal (entry ∷ trace) = (actions_equal entry, trace_equal trace)

  -- the normal form is normal, and over the symbols if the trace is
  module _ (good : HaveNormalForms signature.equations) where
    actions_normal : (actions : List (Action ⊥)) → Every (λ (a : Action ⊥). AreOver signature.symbols a.args) (map (normal_action signature.equations) actions)
        → Every (IsNormalAction signature) (map (normal_action signature.equations) actions)
    actions_normal [] h = tt
    actions_normal (a ∷ actions) h = ((are_normal signature.equations good a.args, h.0), actions_normal actions h.1)

    trace_normal : (trace : Trace) → IsTraceOver signature.symbols (normal_trace signature.equations trace) → IsNormalTrace signature (normal_trace signature.equations trace)
    trace_normal [] h = tt
    trace_normal (entry ∷ trace) h = (actions_normal entry h.0, trace_normal trace h.1)

-- ---- truth over the trace of an execution

module _ (theory : Theory) (good : HaveNormalForms (signature_of theory).equations) (keeps : KeepSymbols (signature_of theory).symbols (signature_of theory).equations)
    (rules : RulesAreOver (signature_of theory).symbols theory.rules) (steps : List Step) (shown : Trace) (run : IsExecution theory steps shown) where
  can_decide : (f : Formula) (g : Guarded) → HasConstructorTerms (signature_of theory) f → guarded_form [] f ≡ Some g → is_guarded g ≡ true → CanDecide (signature_of theory) (normal_trace (signature_of theory).equations shown) g
  can_decide f g constructors e guarded = record {
    normal_forms = good;
    keeps = keeps;
    normal = trace_normal (signature_of theory) good shown
        (normal_trace_over (signature_of theory).symbols (signature_of theory).equations keeps shown (execution_over theory rules steps shown run));
    constructors = form_keeps (signature_of theory) f g constructors e;
    guarded = guarded;
  }

  -- a formula is true over the trace exactly where its guarded form is decided to be true over the normal form
  pub true_where_decided : (f : Formula) (g : Guarded) → HasConstructorTerms (signature_of theory) f → guarded_form [] f ≡ Some g → is_guarded g ≡ true
      → IsTrue (decided (normal_trace (signature_of theory).equations shown) empty g) ↔ IsTrueOver (signature_of theory) shown f
  true_where_decided f g constructors e guarded =
      let t = normal_trace (signature_of theory).equations shown in
      let same = equal_same (signature_of theory) shown t (trace_equal (signature_of theory) shown) (assignment_of empty) (assignment_of empty) (equal_assignment (signature_of theory).equations (assignment_of empty)) g in
      as_through ((told t g).form (signature_of theory) (can_decide f g constructors e guarded) f e (assignment_of empty))
      (as_turned (as_through (form_kept (signature_of theory) shown f g e (assignment_of empty)) same))

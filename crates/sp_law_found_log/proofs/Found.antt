-- What was found true over the trace of a log is true over it, and over the trace of its execution.
use Rattle.std.proofs.Common.{◌≡◌, zero, true, false, List, [], ◌∷◌, ◌++◌, Some, sym, subst}
use Rattle.std.specs.Prelude.{◌↔◌}
use Rattle.std.specs.List.{list_all}
use Rattle.sp_spec.specs.Lists.{Every, newest_first}
use Rattle.sp_spec.specs.Signature.{Signature}
use Rattle.sp_spec.specs.Formula.{Formula}
use Rattle.sp_spec.specs.Theory.{Lemma, Theory, signature_of}
use Rattle.sp_spec.specs.Written.{WrittenTheory, theory_of}
use Rattle.sp_spec.specs.Truth.{IsTrueOver}
use Rattle.sp_spec.specs.Verdict.{MeetsRestrictions, IsBrokenBy, IsSatisfiedBy, IsBrokenByLog, IsSatisfiedByLog, names_learning}
use Rattle.sp_spec.specs.Guarded.{Guarded, GuardedHolds}
use Rattle.sp_spec.specs.Log.{Entry, Log, IsLog, log_trace, visible_trace}
use Rattle.sp_spec.proofs.Lists.{every_parts}
use Rattle.sp_law_truth.specs.Same.{EqualTraces}
use Rattle.sp_law_guard.specs.GuardedForm.{negate}
use Rattle.sp_law_guard.specs.CheckedForm.{checked_form}
use Rattle.sp_law_guard.proofs.Throughout.{throughout_weaken}
use Rattle.sp_law_guard.proofs.Checked.{form_checked}
use Rattle.sp_law_guard.proofs.Kept.{form_kept}
use Rattle.sp_law_guard.proofs.Turned.{turned}
use Rattle.sp_law_decide.specs.Deciding.{assignment_of, decided, empty}
use Rattle.sp_law_decide.specs.Normal.{CanDecide}
use Rattle.sp_law_decide.proofs.ConstructorForms.{OfConstructors, constructors}
use Rattle.sp_law_decide.proofs.Told.{told}
use Rattle.sp_law_adversary.specs.Laws.{Learns}
use Rattle.sp_law_adversary.proofs.Learnt.{normal_trace_same}
use Rattle.sp_law_adversary.proofs.Lemmas.{formula_over}
use Rattle.sp_law_log_steps.specs.Execution.{IsExecutionWith}
use Rattle.sp_law_log_execution.specs.Executed.{executed_of}
use Rattle.sp_law_log_execution.proofs.Steps.{log_runs}
use Rattle.sp_spec_system.specs.Rules.{rules_of}
use Rattle.sp_law_basic.specs.BasicTheory.{IsBasicFormula}
use Rattle.sp_law_basic.specs.Restrictions.{restriction_forms}
use Rattle.sp_law_forms.proofs.Lists.{all_from}
use Rattle.sp_law_tree.proofs.Flat.{FlatAtom}
use Rattle.sp_law_tree.proofs.Forms.{IsRight, right_negation}
use Rattle.sp_law_tree.proofs.PlacedForms.{form_right}
use Rattle.sp_learn.specs.Checking.{is_log}
use Rattle.sp_learn.proofs.Checks.{log_decides}
use Rattle.sp_law_found_log.specs.Shown.{IsSearched, FoundBreaks, FoundSatisfies}
use Rattle.sp_law_found_log.specs.Laws.{FoundLogsShow}
use Rattle.sp_law_found_log.proofs.Executable.{runnable, checkable}
use Rattle.sp_law_found_log.proofs.Restricted.{by_forms}
use Rattle.sp_law_found_log.proofs.Learning.{either_reading}
use Rattle.sp_law_found_log.proofs.Traces.{log_normal}

-- ---- truth

module _ (t : WrittenTheory) (s : IsSearched t) (log : Log) (is : IsLog (theory_of t) log) where
  abbrev theory : Theory
  theory = theory_of t

  abbrev signature : Signature
  signature = signature_of theory

  executed : IsExecutionWith theory (executed_of theory log) (visible_trace log)
  executed = log_runs theory (runnable t s) log is

  -- the log shows the execution's trace
  learnt : Learns theory executed.trace log
  learnt = record {
    is_log = is;
    shows = sym executed.is;
    same_trace = subst (EqualTraces signature.equations executed.trace) executed.is (normal_trace_same signature.equations executed.trace);
  }

  module _ (g : Guarded) (right : IsRight signature g) where
    pub can_decide : CanDecide signature (log_trace log) g
    can_decide = record {
      normal_forms = s.normal_forms.normal_forms;
      keeps = s.normal_forms.keeps;
      normal = log_normal theory (checkable t s) log is;
      constructors = constructors signature zero g (throughout_weaken (FlatAtom signature) (OfConstructors signature) (λ n a h. h.2) zero g right.each);
      guarded = right.guarded;
    }

    over_log : decided (log_trace log) empty g ≡ true → GuardedHolds signature (log_trace log) (assignment_of empty) g
    over_log e = ((told (log_trace log) g).guarded signature can_decide).0 e

  -- a formula without findings, and its guarded form
  module _ (f : Formula) (basic : IsBasicFormula signature f) (g : Guarded) (form : checked_form f ≡ Some g) where
    right : IsRight signature g
    right = let c = form_checked f g form in form_right signature f g basic c.0 c.1

    kept : IsTrueOver signature (log_trace log) f ↔ GuardedHolds signature (log_trace log) (assignment_of empty) g
    kept = form_kept signature (log_trace log) f g (form_checked f g form).0 (assignment_of empty)

    -- it is as true over the execution, if it names no learning
    over_steps : names_learning f ≡ false → IsTrueOver signature executed.trace f ↔ IsTrueOver signature (log_trace log) f
    over_steps unlearnt = let c = form_checked f g form in formula_over theory executed.trace log learnt f ((g, c.0, c.1), unlearnt)

    true_there : decided (log_trace log) empty g ≡ true → IsTrueOver signature (log_trace log) f
    true_there e = kept.1 (over_log g right e)

    false_there : decided (log_trace log) empty (negate g) ≡ true → IsTrueOver signature (log_trace log) f → ⊥
    false_there e true_over =
        (turned signature (log_trace log) g (assignment_of empty)).0 (over_log (negate g) (right_negation signature g right) e) (kept.0 true_over)

  -- the guarded forms of the restrictions are found true
  module _ (met : Every (λ (h : Guarded). decided (log_trace log) empty h ≡ true) (restriction_forms t.restrictions)) where
    met_by_log : MeetsRestrictions theory (log_trace log)
    met_by_log =
        by_forms signature (λ h. decided (log_trace log) empty h ≡ true) (λ r. IsTrueOver signature (log_trace log) r.formula)
        (λ r b e. true_there r.formula b.basic b.form b.form_is e) t.restrictions s.restrictions met

    met_by_steps : MeetsRestrictions theory executed.trace
    met_by_steps =
        by_forms signature (λ h. decided (log_trace log) empty h ≡ true) (λ r. IsTrueOver signature executed.trace r.formula)
        (λ r b e. (over_steps r.formula b.basic b.form b.form_is b.unlearnt).1 (true_there r.formula b.basic b.form b.form_is e)) t.restrictions s.restrictions met

  module _ (lemma : Lemma) (basic : IsBasicFormula signature lemma.formula) (g : Guarded) (form : checked_form lemma.formula ≡ Some g) where
    -- the forms of the restrictions and this one are found true
    abbrev AllFound : Guarded → Type 0
    AllFound h = list_all (decided (log_trace log) empty) (restriction_forms t.restrictions ++ h ∷ []) ≡ true

    parts : (h : Guarded) → AllFound h
        → Every (λ (x : Guarded). decided (log_trace log) empty x ≡ true) (restriction_forms t.restrictions) × (decided (log_trace log) empty h ≡ true)
    parts h e =
        let each = all_from (decided (log_trace log) empty) (restriction_forms t.restrictions ++ h ∷ []) e in
        let r = every_parts (λ (x : Guarded). decided (log_trace log) empty x ≡ true) (restriction_forms t.restrictions) (h ∷ []) each in
        (r.0, r.1.0)

    breaks : AllFound (negate g) → FoundBreaks theory lemma log
    breaks e =
        let p = parts (negate g) e in
        let not_true = false_there lemma.formula basic g form p.1 in
        let by_log : IsBrokenByLog theory lemma log = (is, met_by_log p.0, not_true) in
        record {
          by_log = by_log;
          executed = executed;
          in_reading =
              either_reading lemma (IsBrokenByLog theory lemma log) (IsBrokenBy theory lemma (executed_of theory log)) by_log
              (λ unlearnt. (executed.trace, executed.executed, met_by_steps p.0, λ true_over. not_true ((over_steps lemma.formula basic g form unlearnt).0 true_over)));
        }

    satisfies : AllFound g → FoundSatisfies theory lemma log
    satisfies e =
        let p = parts g e in
        let true_over = true_there lemma.formula basic g form p.1 in
        let by_log : IsSatisfiedByLog theory lemma log = (is, met_by_log p.0, true_over) in
        record {
          by_log = by_log;
          executed = executed;
          in_reading =
              either_reading lemma (IsSatisfiedByLog theory lemma log) (IsSatisfiedBy theory lemma (executed_of theory log)) by_log
              (λ unlearnt. (executed.trace, executed.executed, met_by_steps p.0, (over_steps lemma.formula basic g form unlearnt).1 true_over));
        }

passes_log : (t : WrittenTheory) → IsSearched t → (entries : List Entry) → is_log (signature_of (theory_of t)) (rules_of (theory_of t)).forms entries ≡ true
    → IsLog (theory_of t) (newest_first entries)
passes_log t s entries e = (log_decides (theory_of t) (checkable t s) entries).0 e

pub found_logs_show_lem : FoundLogsShow
found_logs_show_lem = record {
  breaks = λ t s lemma basic g form entries e found. breaks t s (newest_first entries) (passes_log t s entries e) lemma basic g form found;
  satisfies = λ t s lemma basic g form entries e found. satisfies t s (newest_first entries) (passes_log t s entries e) lemma basic g form found;
}

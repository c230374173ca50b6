-- What holds of induction over logs, and what its cases cover.
use Rattle.std.specs.Prelude.{◌≡◌, zero, Some, None, List}
use Rattle.sp_spec.specs.Lists.{Every}
use Rattle.sp_spec.specs.Signature.{Signature}
use Rattle.sp_spec.specs.Theory.{Theory, Lemma, signature_of}
use Rattle.sp_spec.specs.Execution.{Trace}
use Rattle.sp_spec.specs.Guarded.{Guarded, Assignment, GuardedHolds}
use Rattle.sp_spec.specs.Log.{Log, IsLog, log_trace}
use Rattle.sp_law_equal.specs.NormalForms.{HaveNormalForms}
use Rattle.sp_law_truth.specs.Shown.{IsTimed}
use Rattle.sp_law_guard.specs.GuardedForm.{negate}
use Rattle.sp_law_guard.specs.CheckedForm.{checked_form}
use Rattle.sp_law_basic.specs.BasicTheory.{IsBasicFormula, HasNames}
use Rattle.sp_law_induction.specs.Prefix.{IsPrefix}
use Rattle.sp_law_induction.specs.Covering.{IsCase}
use Rattle.sp_spec_system.specs.Numbered.{names_in}
use Rattle.sp_spec_system.specs.Move.{Root, Context}
use Rattle.sp_law_system.specs.Proofs.{IsPast}
use Rattle.sp_law_cover.specs.Contexts.{InductionCovers}
use Rattle.sp_law_tree.specs.Laws.{HasRestrictions, BeginsWith}
use Rattle.sp_law_inductive.specs.Cases.{HasCasesOf}

-- A prefix of a log's trace is the trace of what the log was by then, and that is a log.
pub record PrefixesAreOfLogs : Type 0 where
  pub each : (theory : Theory) (log : Log) → IsLog theory log → (older : Trace) → IsPrefix older (log_trace log)
      → (past : Log) × IsPast past log × IsLog theory past × (log_trace past ≡ older)

-- A lemma is true over a log that meets the restrictions, if the log has at no time met a case of the induction.
pub record InductionShows : Type 0 where
  pub each : (theory : Theory) (signature : Signature) (m : Assignment) (restrictions : List Guarded) (lemma : Guarded) → Every (IsTimed zero) restrictions → IsTimed zero lemma
      → (log : Log) → IsLog theory log → Every (GuardedHolds signature (log_trace log) m) restrictions
      → ((past : Log) → IsPast past log → IsLog theory past → IsCase signature m restrictions lemma (log_trace log) (log_trace past) → ⊥)
      → GuardedHolds signature (log_trace log) m lemma

-- The cases of an induction cover the root of a proof that begins from the negation of a lemma's guarded form, from the restrictions, and from what is taken: an admitted
-- log was once one that is admitted and solves a case. A context whose root has no cases owes nothing.
pub record InductionIsCovered : Type 0 where
  pub covers : (theory : Theory) → HaveNormalForms (signature_of theory).equations → (context : Context) → HasRestrictions theory context
      → (lemma : Lemma) → IsBasicFormula (signature_of theory) lemma.formula → HasNames (names_in context.public_names) lemma.formula → (g : Guarded) → checked_form lemma.formula ≡ Some g
      → (r : Root) → BeginsWith theory context r (negate g) → HasCasesOf r g → InductionCovers theory context
  pub no_cases : (theory : Theory) (context : Context) → ((r : Root) → context.root ≡ Some r → r.cases ≡ None) → InductionCovers theory context

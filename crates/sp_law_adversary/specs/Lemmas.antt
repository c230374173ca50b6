-- Lemmas over learning logs, and over executions.
use Rattle.std.specs.Prelude.{◌≡◌, true, false, [], Some}
use Rattle.sp_spec.specs.Lists.{Every}
use Rattle.sp_spec.specs.Formula.{Formula}
use Rattle.sp_spec.specs.Guarded.{Guarded}
use Rattle.sp_spec.specs.Theory.{Theory, Restriction, Lemma, signature_of}
use Rattle.sp_spec.specs.Verdict.{names_learning, HoldsInAll, HoldsInNone, HoldsInAllLogs, HoldsInNoLog}
use Rattle.sp_law_equal.specs.NormalForms.{HaveNormalForms}
use Rattle.sp_law_equal.specs.Right.{KeepPublic}
use Rattle.sp_law_equal.specs.RightTheory.{LeavesReserved}
use Rattle.sp_law_guard.specs.GuardedForm.{guarded_form}
use Rattle.sp_law_guard.specs.IsGuarded.{is_guarded}

-- The formula has a guarded form, and doesn't speak of learning.
abbrev pub IsOfExecutions : Formula → Type 0
IsOfExecutions f = ((g : Guarded) × (guarded_form [] f ≡ Some g) × (is_guarded g ≡ true)) × (names_learning f ≡ false)

-- what the law that executions have logs asks of a theory, and what the law on lemmas asks of its restrictions
pub record HasLogs (theory : Theory) : Type 0 where
  pub normal_forms : HaveNormalForms (signature_of theory).equations
  pub keeps : KeepPublic (signature_of theory).symbols (signature_of theory).equations
  pub reserved : Every LeavesReserved theory.rules
  pub restrictions : Every (λ (r : Restriction). IsOfExecutions r.formula) theory.restrictions

-- What holds in all learning logs holds in all executions, and what holds in none holds in none.
pub record LogsShowLemmas : Type 0 where
  pub all_traces : (theory : Theory) → HasLogs theory → (lemma : Lemma) → IsOfExecutions lemma.formula → HoldsInAllLogs theory lemma → HoldsInAll theory lemma
  pub exists_trace : (theory : Theory) → HasLogs theory → (lemma : Lemma) → IsOfExecutions lemma.formula → HoldsInNoLog theory lemma → HoldsInNone theory lemma

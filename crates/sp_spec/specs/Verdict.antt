-- What it means that a lemma holds, and that it is broken. Source: Tamarin manual, "Property specification" (all-traces,
-- exists-trace, restrictions); CSF 2012, "Security properties".
use Rattle.std.specs.Prelude.{Bool, true, false, ◌||◌, List, codes}
use Rattle.std.specs.Str.{bytes_eq}
use Rattle.sp_spec.specs.Lists.{Every}
use Rattle.sp_spec.specs.Formula.{Formula, truth, falsity, happens, equals, precedes, not_so, both, either, implies, for_all, for_some}
use Rattle.sp_spec.specs.Theory.{Theory, Restriction, Lemma, signature_of}
use Rattle.sp_spec.specs.Execution.{Step, Trace, IsExecution}
use Rattle.sp_spec.specs.Truth.{IsTrueOver}
use Rattle.sp_spec.specs.Log.{Log, IsLog, log_trace}

abbrev pub MeetsRestrictions : Theory → Trace → Type 0
MeetsRestrictions theory trace = Every (λ (r : Restriction). IsTrueOver (signature_of theory) trace r.formula) theory.restrictions

-- an all-traces lemma: every execution that meets the restrictions satisfies it
abbrev pub HoldsInAll : Theory → Lemma → Type 0
HoldsInAll theory lemma =
    (steps : List Step) (trace : Trace) → IsExecution theory steps trace → MeetsRestrictions theory trace → IsTrueOver (signature_of theory) trace lemma.formula

-- the steps are an execution that meets the restrictions and breaks the lemma
abbrev pub IsBrokenBy : Theory → Lemma → List Step → Type 0
IsBrokenBy theory lemma steps =
    (trace : Trace) × IsExecution theory steps trace × MeetsRestrictions theory trace × (IsTrueOver (signature_of theory) trace lemma.formula → ⊥)

-- an exists-trace lemma: the steps are an execution that meets the restrictions and satisfies it
abbrev pub IsSatisfiedBy : Theory → Lemma → List Step → Type 0
IsSatisfiedBy theory lemma steps =
    (trace : Trace) × IsExecution theory steps trace × MeetsRestrictions theory trace × IsTrueOver (signature_of theory) trace lemma.formula

-- no execution that meets the restrictions satisfies it
abbrev pub HoldsInNone : Theory → Lemma → Type 0
HoldsInNone theory lemma =
    (steps : List Step) (trace : Trace) → IsExecution theory steps trace → MeetsRestrictions theory trace → IsTrueOver (signature_of theory) trace lemma.formula → ⊥

-- a lemma that names the action of learning
abbrev pub names_learning : Formula → Bool
names_learning truth = false
names_learning falsity = false
names_learning (happens action i) = bytes_eq action.symbol (codes "KU")
names_learning (equals t u) = false
names_learning (precedes i j) = false
names_learning (not_so f) = names_learning f
names_learning (both f g) = names_learning f || names_learning g
names_learning (either f g) = names_learning f || names_learning g
names_learning (implies f g) = names_learning f || names_learning g
names_learning (for_all x f) = names_learning f
names_learning (for_some x f) = names_learning f

abbrev pub HoldsInAllLogs : Theory → Lemma → Type 0
HoldsInAllLogs theory lemma =
    (log : Log) → IsLog theory log → MeetsRestrictions theory (log_trace log) → IsTrueOver (signature_of theory) (log_trace log) lemma.formula

abbrev pub IsBrokenByLog : Theory → Lemma → Log → Type 0
IsBrokenByLog theory lemma log =
    IsLog theory log × MeetsRestrictions theory (log_trace log) × (IsTrueOver (signature_of theory) (log_trace log) lemma.formula → ⊥)

abbrev pub IsSatisfiedByLog : Theory → Lemma → Log → Type 0
IsSatisfiedByLog theory lemma log =
    IsLog theory log × MeetsRestrictions theory (log_trace log) × IsTrueOver (signature_of theory) (log_trace log) lemma.formula

abbrev pub HoldsInNoLog : Theory → Lemma → Type 0
HoldsInNoLog theory lemma =
    (log : Log) → IsLog theory log → MeetsRestrictions theory (log_trace log) → IsTrueOver (signature_of theory) (log_trace log) lemma.formula → ⊥

-- ---- A lemma that names the action of learning is read over learning logs, any other over executions.

abbrev pub InReading : Bool → Type 0 → Type 0 → Type 0
InReading true over_logs over_executions = over_logs
InReading false over_logs over_executions = over_executions

abbrev pub HoldsInReading : Theory → Lemma → Type 0
HoldsInReading theory lemma = InReading (names_learning lemma.formula) (HoldsInAllLogs theory lemma) (HoldsInAll theory lemma)

abbrev pub HoldsInNoReading : Theory → Lemma → Type 0
HoldsInNoReading theory lemma = InReading (names_learning lemma.formula) (HoldsInNoLog theory lemma) (HoldsInNone theory lemma)

-- by the log, or by the steps that it stands for
abbrev pub IsBrokenInReading : Theory → Lemma → Log → List Step → Type 0
IsBrokenInReading theory lemma log steps = InReading (names_learning lemma.formula) (IsBrokenByLog theory lemma log) (IsBrokenBy theory lemma steps)

abbrev pub IsSatisfiedInReading : Theory → Lemma → Log → List Step → Type 0
IsSatisfiedInReading theory lemma log steps = InReading (names_learning lemma.formula) (IsSatisfiedByLog theory lemma log) (IsSatisfiedBy theory lemma steps)

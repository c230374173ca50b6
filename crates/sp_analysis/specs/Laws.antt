-- What verdicts mean, and that each text has one answer.
use Rattle.std.specs.Prelude.{◌≡◌, ◌↔◌, List, ℕ, Bool, true, false, Option, Some, None, map, ◌++◌, codes}
use Rattle.sp_spec.specs.Lists.{Every, newest_first}
use Rattle.sp_spec.specs.Theory.{TraceKind, all_traces, exists_trace, Theory, Lemma, signature_of}
use Rattle.sp_spec.specs.Log.{Log, visible_trace}
use Rattle.sp_law_log_execution.specs.Executed.{executed_of}
use Rattle.sp_spec_printed.specs.Printed.{step_text}
use Rattle.sp_spec_printed.specs.StepLines.{IsWritableStep, AreSteps}
use Rattle.sp_spec_log_lines.specs.Line.{line_text}
use Rattle.sp_spec_log_lines.specs.Block.{lines_of}
use Rattle.sp_spec_log_lines.specs.Told.{IsWritableLine, TellOf}
use Rattle.sp_law_log_lines.specs.Block.{given_in}
use Rattle.sp_law_printed_log.specs.Block.{oldest_first}
use Rattle.sp_law_printed_log.specs.Shown.{IsShownTrace}
use Rattle.sp_spec.specs.Written.{WrittenTheory, theory_of}
use Rattle.sp_spec.specs.Verdict.{names_learning, HoldsInReading, HoldsInNoReading}
use Rattle.sp_check.specs.Rejected.{ReadIsAccepted}
use Rattle.sp_spec_printed.specs.Verdict.{Clause, Verdict, verified, falsified, incomplete, rejected}
use Rattle.sp_spec_proof.specs.Tree.{Tree, steps}
use Rattle.sp_spec_text.specs.Written.{WrittenText, proofs_in}
use Rattle.sp_spec_text.specs.Declared.{theory_in}
use Rattle.sp_skel.specs.Spelling.{as_written}
use Rattle.sp_place.specs.Refused.{IsRefusedAt}
use Rattle.sp_pose.specs.Problem.{IsReported}
use Rattle.sp_spec_text.specs.Behind.{IsBehindEnd}
use Rattle.sp_law_found_log.specs.Shown.{FoundBreaks, FoundSatisfies}
use Rattle.sp_spec_system.specs.Move.{root_system}
use Rattle.sp_analysis.specs.Sought.{setting_of, context_of}
use Rattle.sp_analysis.specs.Analysis.{Outcome, summary, trees_of, IsAnalysis}
use Rattle.sp_analysis.specs.Checking.{Judged, IsChecking}
use Rattle.sp_analysis.specs.Replies.{IsShown, LacksLemma}

-- Of executions that meet the restrictions. Of a lemma on all traces: verified, every execution satisfies it; falsified, the log that was found stands for
-- one that breaks it. Of one on some trace: verified, the log that was found stands for an execution that satisfies it; falsified, no execution does. A
-- lemma that names learning is read over learning logs in place of executions.
-- An incomplete analysis and a rejected proof say nothing of executions.
abbrev pub Means : Theory → TraceKind → Verdict → Option Log → Lemma → Type 0
Means theory all_traces verified None lemma = HoldsInReading theory lemma
Means theory all_traces falsified (Some log) lemma = FoundBreaks theory lemma log
Means theory exists_trace verified (Some log) lemma = FoundSatisfies theory lemma log
Means theory exists_trace falsified None lemma = HoldsInNoReading theory lemma
Means theory kind incomplete None lemma = Unit {0}
Means theory kind (rejected step clause) None lemma = Unit {0}
Means theory kind verdict log lemma = ⊥

abbrev pub IsRejected : Verdict → Type 0
IsRejected verdict = (step : ℕ) × (clause : Clause) × (verdict ≡ rejected step clause)

-- What is said of a lemma whose proof was checked is so, and its proof is accepted exactly where it isn't rejected: each step is a move,
-- and an instance of it, and has its cases, by name and in order.
pub record JudgedRightly (text : WrittenText) (j : Judged) : Type 0 where
  pub means : Means (theory_of (theory_in text)) j.lemma.kind j.verdict j.log j.lemma
  pub accepts : (IsRejected j.verdict → ⊥) ↔ ReadIsAccepted (context_of (setting_of text) j.root) (root_system j.root) j.proof

-- An incomplete analysis has made each of the moves that it may.
pub record IsSpent (budget : ℕ) (o : Outcome) : Type 0 where
  pub spent : o.verdict ≡ incomplete → steps o.tree ≡ budget

-- What is written of a lemma is so, steps of the adversary included; and a search is given up only where its budget is spent.
pub record VerdictsAreRight : Type 0 where
  pub right : (budget : ℕ) (chosen : Option (List ℕ)) (text written : List ℕ) (outcomes : List Outcome) (a : IsAnalysis budget chosen text written outcomes)
      → Every (λ (o : Outcome). Means (theory_of (theory_in a.theory)) o.lemma.kind o.verdict o.log o.lemma) outcomes
  pub spent : (budget : ℕ) (chosen : Option (List ℕ)) (text written : List ℕ) (outcomes : List Outcome) → IsAnalysis budget chosen text written outcomes → Every (IsSpent budget) outcomes
  pub judged_right : (chosen : Option (List ℕ)) (text written : List ℕ) (judged : List Judged) (c : IsChecking chosen text written judged)
      → Every (JudgedRightly c.theory) judged

-- Of a text one thing is written, by each command and budget, and of each lemma or of the one that is named; and only one of four things comes of it: it is refused, reported on, or done
-- with, or lacks the lemma that is named.
pub record AnswersAreOne : Type 0 where
  pub one : (budget : ℕ) (chosen : Option (List ℕ)) (text written other : List ℕ) (outcomes others : List Outcome) → IsAnalysis budget chosen text written outcomes
      → IsAnalysis budget chosen text other others → (written ≡ other) × (outcomes ≡ others)
  pub one_check : (chosen : Option (List ℕ)) (text written other : List ℕ) (judged others : List Judged) → IsChecking chosen text written judged → IsChecking chosen text other others
      → (written ≡ other) × (judged ≡ others)
  pub one_shown : (shows : Theory → List Outcome → List ℕ) (budget : ℕ) (chosen : Option (List ℕ)) (text written other : List ℕ) (verdicts others : List Verdict)
      → IsShown shows budget chosen text written verdicts → IsShown shows budget chosen text other others → (written ≡ other) × (verdicts ≡ others)
  pub one_report : (text lines other : List ℕ) → IsReported text lines → IsReported text other → lines ≡ other
  pub refused : (text lines : List ℕ) (place : ℕ) → IsRefusedAt text place → IsReported text lines → ⊥
  pub no_analysis : (budget : ℕ) (chosen : Option (List ℕ)) (text written : List ℕ) (place : ℕ) (outcomes : List Outcome) → IsRefusedAt text place → IsAnalysis budget chosen text written outcomes → ⊥
  pub no_checking : (chosen : Option (List ℕ)) (text written : List ℕ) (place : ℕ) (judged : List Judged) → IsRefusedAt text place → IsChecking chosen text written judged → ⊥
  pub no_showing : (shows : Theory → List Outcome → List ℕ) (budget : ℕ) (chosen : Option (List ℕ)) (text written : List ℕ) (place : ℕ) (verdicts : List Verdict) → IsRefusedAt text place
      → IsShown shows budget chosen text written verdicts → ⊥
  pub not_analysed : (budget : ℕ) (chosen : Option (List ℕ)) (text lines written : List ℕ) (outcomes : List Outcome) → IsReported text lines → IsAnalysis budget chosen text written outcomes → ⊥
  pub not_checked : (chosen : Option (List ℕ)) (text lines written : List ℕ) (judged : List Judged) → IsReported text lines → IsChecking chosen text written judged → ⊥
  pub not_shown : (shows : Theory → List Outcome → List ℕ) (budget : ℕ) (chosen : Option (List ℕ)) (text lines written : List ℕ) (verdicts : List Verdict) → IsReported text lines
      → IsShown shows budget chosen text written verdicts → ⊥
  pub refused_or_lacking : (chosen : Option (List ℕ)) (text : List ℕ) (place : ℕ) → IsRefusedAt text place → LacksLemma chosen text → ⊥
  pub reported_or_lacking : (chosen : Option (List ℕ)) (text lines : List ℕ) → IsReported text lines → LacksLemma chosen text → ⊥
  pub analysed_or_lacking : (budget : ℕ) (chosen : Option (List ℕ)) (text written : List ℕ) (outcomes : List Outcome) → IsAnalysis budget chosen text written outcomes → LacksLemma chosen text → ⊥
  pub checked_or_lacking : (chosen : Option (List ℕ)) (text written : List ℕ) (judged : List Judged) → IsChecking chosen text written judged → LacksLemma chosen text → ⊥
  pub shown_or_lacking : (shows : Theory → List Outcome → List ℕ) (budget : ℕ) (chosen : Option (List ℕ)) (text written : List ℕ) (verdicts : List Verdict)
      → IsShown shows budget chosen text written verdicts → LacksLemma chosen text → ⊥

-- Behind the word `end` of what was written stands the summary.
abbrev pub StandsBehind : WrittenText → List ℕ → List Outcome → Type 0
StandsBehind theory written outcomes = IsBehindEnd written (codes "\n/*\n" ++ (summary (theory_of (theory_in theory)) outcomes ++ codes "*/\n"))

-- What was written says the same theory, and the trees that were grown are its proofs; checked, each lemma gets the same line, the same
-- verdict and the same log.
pub record IsCheckedAgain (theory : WrittenText) (written : List ℕ) (outcomes : List Outcome) : Type 0 where
  pub judged : List Judged
  pub checking : IsChecking None written (summary (theory_of (theory_in theory)) outcomes) judged
  pub same_theory : theory_in checking.theory ≡ theory_in theory
  pub proofs : proofs_in checking.theory.items ≡ map (λ (t : Tree). Some (as_written t)) (trees_of outcomes)
  pub verdicts : map (λ (j : Judged). j.verdict) judged ≡ map (λ (o : Outcome). o.verdict) outcomes
  pub logs : map (λ (j : Judged). j.log) judged ≡ map (λ (o : Outcome). o.log) outcomes

-- Behind what is written of a text whose lemmas were tried stands the summary; where each of them was, it is checked as they were tried.
pub record WrittenIsChecked : Type 0 where
  pub behind : (budget : ℕ) (chosen : Option (List ℕ)) (text written : List ℕ) (outcomes : List Outcome) (a : IsAnalysis budget chosen text written outcomes) → StandsBehind a.theory written outcomes
  pub checked : (budget : ℕ) (text written : List ℕ) (outcomes : List Outcome) (a : IsAnalysis budget None text written outcomes) → IsCheckedAgain a.theory written outcomes

-- The steps that the log stands for may be written: their lines are read back as these steps.
pub record IsReadBack (theory : Theory) (log : Log) : Type 0 where
  pub writable : Every (IsWritableStep (signature_of theory).symbols) (oldest_first (executed_of theory log))
  pub read : AreSteps (signature_of theory).symbols (map step_text (oldest_first (executed_of theory log))) (oldest_first (executed_of theory log))
  pub shown : IsShownTrace (signature_of theory).symbols (oldest_first (visible_trace log))

-- The lines of the log may be written, and tell of its entries.
pub record IsToldByLines (theory : Theory) (log : Log) : Type 0 where
  pub writable : Every (IsWritableLine (signature_of theory).symbols) (lines_of (given_in theory) log)
  pub tell : TellOf theory (map line_text (lines_of (given_in theory) log)) (newest_first log)
  pub shown : IsShownTrace (signature_of theory).symbols (oldest_first (visible_trace log))

-- by whether the lemma names learning
abbrev pub AreReadBack : Theory → Bool → Option Log → Type 0
AreReadBack theory marked None = Unit {0}
AreReadBack theory true (Some log) = IsToldByLines theory log
AreReadBack theory false (Some log) = IsReadBack theory log

-- Each execution that is written is read back from its lines, and the lines of each log tell of its entries.
pub record ExecutionsAreReadBack : Type 0 where
  pub tried : (budget : ℕ) (chosen : Option (List ℕ)) (text written : List ℕ) (outcomes : List Outcome) (a : IsAnalysis budget chosen text written outcomes)
      → Every (λ (o : Outcome). AreReadBack (theory_of (theory_in a.theory)) (names_learning o.lemma.formula) o.log) outcomes
  pub checked : (chosen : Option (List ℕ)) (text written : List ℕ) (judged : List Judged) (c : IsChecking chosen text written judged)
      → Every (λ (j : Judged). AreReadBack (theory_of (theory_in c.theory)) (names_learning j.lemma.formula) j.log) judged

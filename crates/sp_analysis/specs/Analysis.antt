-- What is written of a text whose lemmas have been tried: the text with a proof tree behind each lemma's formula, and a comment with the
-- verdicts and the executions that were found. Source of the shape: Tamarin manual, "Proofs" and "Output"; the words are this project's own.
use Rattle.std.specs.Prelude.{◌≡◌, ℕ, true, Option, Some, List, [], ◌∷◌, ◌++◌, map, codes}
use Rattle.sp_spec.specs.Lists.{Every}
use Rattle.sp_spec.specs.Theory.{Theory, Lemma}
use Rattle.sp_spec.specs.Written.{theory_of}
use Rattle.sp_spec.specs.Verdict.{names_learning}
use Rattle.sp_spec.specs.Guarded.{Guarded}
use Rattle.sp_spec.specs.Log.{Log}
use Rattle.sp_spec.specs.Execution.{Step}
use Rattle.sp_law_log_execution.specs.Executed.{executed_of}
use Rattle.sp_law_guard.specs.CheckedForm.{checked_form}
use Rattle.sp_spec_proof.specs.Tree.{Tree, IsFinished, steps}
use Rattle.sp_skel.specs.Places.{HavePlaces}
use Rattle.sp_spec_text.specs.Written.{WrittenText}
use Rattle.sp_spec_text.specs.Declared.{resolved, theory_in}
use Rattle.sp_spec_text.specs.Spans.{Span}
use Rattle.sp_spec_text.specs.Texts.{ArePlaces}
use Rattle.sp_law_reread.specs.Again.{replaced}
use Rattle.sp_pose.specs.Problem.{Poses}
use Rattle.sp_analysis.specs.Taken.{Stated, stated_in, Taken, taken_by}
use Rattle.sp_analysis.specs.Chosen.{run_among, has_lemma, placed}
use Rattle.sp_analysis.specs.Sought.{root_of, Setting, setting_of, proof_tree, grown_log}
use Rattle.sp_spec_text.specs.Numerals.{counted}
use Rattle.sp_spec_printed.specs.Verdict.{Verdict, Says, summary_line}
use Rattle.sp_spec_log_lines.specs.Line.{Giving}
use Rattle.sp_law_log_lines.specs.Block.{given_in}
use Rattle.sp_analysis.specs.Found.{block_by, IsNumbered}

-- what came of a lemma; with the log with which the search ended, if it did
pub record Outcome : Type 0 where
  pub lemma : Lemma
  pub tree : Tree
  pub log : Option Log
  pub verdict : Verdict

-- a line for each lemma, with the execution that was found behind it, or the log where the lemma names learning
abbrev pub summary_by : (Log → List Step) → Giving → List Outcome → List ℕ
summary_by steps_of given [] = []
summary_by steps_of given (o ∷ os) =
    let marked = names_learning o.lemma.formula in
    summary_line o.lemma.name o.lemma.kind marked o.verdict (counted (steps o.tree)) ++ (block_by steps_of given marked o.log ++ summary_by steps_of given os)

abbrev pub summary : Theory → List Outcome → List ℕ
summary theory os = summary_by (executed_of theory) (given_in theory) os

abbrev pub trees_of : List Outcome → List Tree
trees_of os = map (λ (o : Outcome). o.tree) os

-- the text up to its word `end`, with each proof in the place of the one that stands behind the lemma's formula, or where one is to stand,
-- and the summary in a comment
abbrev pub analysed_text : Theory → List ℕ → List Span → List (Option Tree) → List Outcome → ℕ → List ℕ
analysed_text theory text spans trees os end = replaced text 0 spans trees end ++ (codes "\n/*\n" ++ (summary theory os ++ codes "*/\n"))

-- The outcome is that of the lemma, where these are taken, but for those that it hides: the proof tree of at most so many moves is grown for its guarded
-- form, and decides the verdict.
pub record IsOutcome (setting : Setting) (budget : ℕ) (taken : List Taken) (q : Stated) (o : Outcome) : Type 0 where
  pub lemma_is : o.lemma ≡ q.lemma
  pub form : Guarded
  pub form_is : checked_form q.lemma.formula ≡ Some form
  pub tree_is : o.tree ≡ proof_tree setting budget (root_of setting q.attributes taken q.lemma.kind form)
  pub log_is : o.log ≡ grown_log setting budget (root_of setting q.attributes taken q.lemma.kind form)
  pub verdict_is : Says q.lemma.kind o.verdict o.log (IsFinished o.tree)

-- one for each lemma, in the order of the text; each takes what those before it gave
abbrev pub AreOutcomes : Setting → ℕ → List Taken → List Stated → List Outcome → Type 0
AreOutcomes setting budget taken [] [] = Unit {0}
AreOutcomes setting budget taken [] (o ∷ os) = ⊥
AreOutcomes setting budget taken (q ∷ qs) [] = ⊥
AreOutcomes setting budget taken (q ∷ qs) (o ∷ os) = IsOutcome setting budget taken q o × AreOutcomes setting budget (taken ++ taken_by q o.verdict) qs os

-- Each lemma that the text poses is tried, or the one alone whose name is given; its proof and its verdict stand in what is written. Each place that a proof names is one that a text can
-- name, and so is each fresh name of an execution; were one not, that would be want of memory.
pub record IsAnalysis (budget : ℕ) (chosen : Option (List ℕ)) (text written : List ℕ) (outcomes : List Outcome) : Type 0 where
  pub theory : WrittenText
  pub poses : Poses text theory
  pub has : has_lemma chosen (stated_in (resolved theory).items) ≡ true
  pub outcomes_are : AreOutcomes (setting_of theory) budget [] (run_among chosen (stated_in (resolved theory).items)) outcomes
  pub places : Every (λ (o : Outcome). HavePlaces o.tree) outcomes
  pub numbers : Every (λ (o : Outcome). IsNumbered (theory_of (theory_in theory)) o.lemma o.log) outcomes
  pub spans : List Span
  pub behind_end : ℕ
  pub places_are : ArePlaces text theory spans behind_end
  pub written_is : written ≡ analysed_text (theory_of (theory_in theory)) text spans (placed chosen (stated_in (resolved theory).items) (trees_of outcomes)) outcomes behind_end

-- What is done with a text, by what is to be done with it.
use Rattle.std.specs.Prelude.{◌≡◌, ℕ, false, List, Option, map}
use Rattle.sp_spec_text.specs.Written.{WrittenText}
use Rattle.sp_spec.specs.Theory.{Theory}
use Rattle.sp_spec.specs.Written.{theory_of}
use Rattle.sp_spec_text.specs.Declared.{resolved, theory_in}
use Rattle.sp_spec_printed.specs.Verdict.{Verdict}
use Rattle.sp_pose.specs.Problem.{Poses}
use Rattle.sp_analysis.specs.Taken.{stated_in}
use Rattle.sp_analysis.specs.Chosen.{has_lemma}
use Rattle.sp_analysis.specs.Analysis.{Outcome, IsAnalysis}
use Rattle.sp_analysis.specs.Checking.{Judged, IsChecking}
use Rattle.sp_analysis.specs.Shown.{graphs, counts}
use Rattle.sp_analysis.specs.View.{verdict_of}
use Rattle.sp_analysis.specs.declared.replies.Command.{Command}
use Rattle.sp_analysis.specs.declared.replies.Command.TheVariants.{Prove, Check, Graph, Count}
use Rattle.sp_analysis.specs.declared.replies.Answered.{Answered}
use Rattle.sp_analysis.specs.declared.replies.Attempt.{Attempt}
use Rattle.sp_analysis.specs.declared.replies.Attempt.TheVariants.{NoLemma, Done}

-- what is written where each lemma is tried within so many moves, or the one alone whose name is given, and what is said of them
pub record IsAnalysed (budget : ℕ) (chosen : Option (List ℕ)) (text written : List ℕ) (verdicts : List Verdict) : Type 0 where
  pub outcomes : List Outcome
  pub analysis : IsAnalysis budget chosen text written outcomes
  pub verdicts_are : verdicts ≡ map (λ (o : Outcome). o.verdict) outcomes

-- what is written where each proof is checked, or that of the one alone, and what is said of them
pub record IsChecked (chosen : Option (List ℕ)) (text written : List ℕ) (verdicts : List Verdict) : Type 0 where
  pub judged : List Judged
  pub checking : IsChecking chosen text written judged
  pub verdicts_are : verdicts ≡ map (λ (j : Judged). j.verdict) judged

-- what is written of the outcomes where each lemma is tried, or the one alone, in the place of the text with their proofs; and what is said of them
pub record IsShown (shows : Theory → List Outcome → List ℕ) (budget : ℕ) (chosen : Option (List ℕ)) (text written : List ℕ) (verdicts : List Verdict) : Type 0 where
  pub outcomes : List Outcome
  pub analysed : List ℕ
  pub analysis : IsAnalysis budget chosen text analysed outcomes
  pub written_is : written ≡ shows (theory_of (theory_in analysis.theory)) outcomes
  pub verdicts_are : verdicts ≡ map (λ (o : Outcome). o.verdict) outcomes

-- the text poses a theory that has no lemma of the name that is given
pub record LacksLemma (chosen : Option (List ℕ)) (text : List ℕ) : Type 0 where
  pub theory : WrittenText
  pub poses : Poses text theory
  pub lacks : has_lemma chosen (stated_in (resolved theory).items) ≡ false

abbrev pub IsDone : Command → Option (List ℕ) → List ℕ → List ℕ → List Verdict → Type 0
IsDone (Prove budget) chosen text written verdicts = IsAnalysed budget chosen text written verdicts
IsDone Check chosen text written verdicts = IsChecked chosen text written verdicts
IsDone (Graph budget) chosen text written verdicts = IsShown graphs budget chosen text written verdicts
IsDone (Count budget) chosen text written verdicts = IsShown (λ theory. counts) budget chosen text written verdicts

abbrev pub IsAnswered : Command → Option (List ℕ) → List ℕ → Answered → Type 0
IsAnswered command chosen text a = IsDone command chosen text a.written.items (map verdict_of a.verdicts.items)

abbrev pub IsAttempted : Command → Option (List ℕ) → List ℕ → Attempt → Type 0
IsAttempted command chosen text NoLemma = LacksLemma chosen text
IsAttempted command chosen text (Done a) = IsAnswered command chosen text a

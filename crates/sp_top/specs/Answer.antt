-- What is answered to the words of a command: a text that is written, and a status.
use Rattle.std.specs.Prelude.{◌≡◌, ◌⊎◌, ◌≤◌, ◌<◌, ℕ, suc, Bool, true, false, List, ◌++◌, map, Option, Some, None, IsSomeAnd, if◌then◌else◌, length, codes, decimal}
use Rattle.std.specs.List.{list_any}
use Rattle.std.specs.Option.{ForSome}
use Rattle.sp_io.specs.Told.{Rose}
use Rattle.sp_top.specs.Command.{Request, IsAbout, told, IsLine, IsNoLine}
use Rattle.sp_top.specs.declared.Status.{Status}
use Rattle.sp_top.specs.declared.Status.TheVariants.{Fine, Falsified, Incomplete, Rejected, Refused, Usage, ReadFault, TooLong}
use Rattle.sp_top.specs.declared.Wanted.{Wanted}
use Rattle.sp_top.specs.declared.Wanted.TheVariants as wanted
use Rattle.sp_place.specs.Refused.{IsRefusedAt}
use Rattle.sp_pose.specs.Problem.{IsReported, IsReviewed}
use Rattle.sp_spec_printed.specs.Verdict.{Verdict, verified, falsified, incomplete, rejected}
use Rattle.sp_analysis.specs.Analysis.{Outcome, IsAnalysis}
use Rattle.sp_analysis.specs.Shown.{graphs, counts, is_falsified, is_incomplete}
use Rattle.sp_analysis.specs.Checking.{Judged, IsChecking}
use Rattle.sp_analysis.specs.Replies.{LacksLemma}
use Rattle.sp_spec.specs.Execution.{Cause}
use Rattle.sp_spec.specs.Written.{theory_of}
use Rattle.sp_spec_text.specs.Declared.{theory_in}
use Rattle.sp_exec.specs.Replay.{rank}
use Rattle.sp_replay.specs.Replay.{IsUnread, IsStopped, IsReplay}
use Rattle.sp_rule_forms.specs.Variants.{IsListed}
use Rattle.sp_words.specs.declared.Command.{Command}
use Rattle.sp_words.specs.declared.Command.TheVariants.{Prove, Check, Replay, Variants, Wf, Graph, Gen}

-- how many bytes a text may have
abbrev pub text_limit : ℕ
text_limit = 1048576

-- the text says no theory, and is refused at a place
pub record IsRefusal (bytes text : List ℕ) (status : Status) : Type 0 where
  pub place : ℕ
  pub refused : IsRefusedAt bytes place
  pub text_is : text ≡ codes "refused: text at byte " ++ (decimal place ++ codes "\n")
  pub status_is : status ≡ Refused

-- the text says a theory with fatal findings, and these are their lines
pub record IsReport (bytes text : List ℕ) (status : Status) : Type 0 where
  pub report : IsReported bytes text
  pub status_is : status ≡ Refused

abbrev pub is_rejected : Verdict → Bool
is_rejected verified = false
is_rejected falsified = false
is_rejected incomplete = false
is_rejected (rejected step clause) = true

abbrev pub is_wanted : Wanted → Verdict → Bool
is_wanted wanted.Rejected = is_rejected
is_wanted wanted.Falsified = is_falsified
is_wanted wanted.Incomplete = is_incomplete

-- Rejected where some proof is rejected, else Falsified where some lemma is falsified, else Incomplete where the analysis of some lemma is
-- incomplete, else Fine: all are verified, or there are none.
abbrev pub status_of : List Verdict → Status
status_of vs = if list_any is_rejected vs then Rejected else if list_any is_falsified vs then Falsified else if list_any is_incomplete vs then Incomplete else Fine

-- what is said of each lemma
abbrev pub verdicts_of : List Outcome → List Verdict
verdicts_of os = map (λ (o : Outcome). o.verdict) os

abbrev pub verdicts_on : List Judged → List Verdict
verdicts_on js = map (λ (j : Judged). j.verdict) js

-- the text with the proof of at most so many moves that is grown for each of its lemmas, or for the one that is named, and what is said of them
pub record IsTried (budget : ℕ) (chosen : Option (List ℕ)) (bytes text : List ℕ) (status : Status) : Type 0 where
  pub outcomes : List Outcome
  pub analysis : IsAnalysis budget chosen bytes text outcomes
  pub status_is : status ≡ status_of (verdicts_of outcomes)

-- of each lemma that was tried, or of the one that is named, the graph of the log that was found
pub record IsPictured (budget : ℕ) (chosen : Option (List ℕ)) (bytes text : List ℕ) (status : Status) : Type 0 where
  pub outcomes : List Outcome
  pub analysed : List ℕ
  pub analysis : IsAnalysis budget chosen bytes analysed outcomes
  pub text_is : text ≡ graphs (theory_of (theory_in analysis.theory)) outcomes
  pub status_is : status ≡ status_of (verdicts_of outcomes)

-- how many lemmas were tried, and how many verdicts there are of each kind
pub record IsCounted (budget : ℕ) (chosen : Option (List ℕ)) (bytes text : List ℕ) (status : Status) : Type 0 where
  pub outcomes : List Outcome
  pub analysed : List ℕ
  pub analysis : IsAnalysis budget chosen bytes analysed outcomes
  pub text_is : text ≡ counts outcomes
  pub status_is : status ≡ status_of (verdicts_of outcomes)

-- what is said of each lemma, or of the one that is named, by the proof that stands below it
pub record IsChecked (chosen : Option (List ℕ)) (bytes text : List ℕ) (status : Status) : Type 0 where
  pub judged : List Judged
  pub checking : IsChecking chosen bytes text judged
  pub status_is : status ≡ status_of (verdicts_on judged)

-- the text says a theory without fatal findings that has no lemma of the name that is given
pub record IsLemmaRefusal (chosen : Option (List ℕ)) (bytes text : List ℕ) (status : Status) : Type 0 where
  pub name : List ℕ
  pub is_given : chosen ≡ Some name
  pub lacks : LacksLemma chosen bytes
  pub text_is : text ≡ codes "refused: no lemma " ++ (name ++ codes "\n")
  pub status_is : status ≡ Refused

-- a line behind the text is no step's
pub record IsLineRefusal (bytes text : List ℕ) (status : Status) : Type 0 where
  pub number : ℕ
  pub unread : IsUnread bytes number
  pub text_is : text ≡ codes "refused: line " ++ (decimal number ++ codes "\n")
  pub status_is : status ≡ Refused

-- a step can't be done; causes are numbered from 1
pub record IsStepRefusal (bytes text : List ℕ) (status : Status) : Type 0 where
  pub number : ℕ
  pub cause : Cause
  pub stopped : IsStopped bytes number cause
  pub text_is : text ≡ codes "step " ++ (decimal number ++ (codes " refused (" ++ (decimal (suc (rank cause)) ++ codes ")\n")))
  pub status_is : status ≡ Rejected

-- the steps are an execution
pub record IsReplayed (bytes text : List ℕ) (status : Status) : Type 0 where
  pub replay : IsReplay bytes text
  pub status_is : status ≡ Fine

-- the rules of the text, each with its forms
pub record HasVariants (bytes text : List ℕ) (status : Status) : Type 0 where
  pub listed : IsListed bytes text
  pub status_is : status ≡ Fine

-- the text says a theory without fatal findings: its warnings, and how many there are
pub record IsFineReview (bytes text : List ℕ) (status : Status) : Type 0 where
  pub reviewed : IsReviewed bytes text true
  pub status_is : status ≡ Fine

-- the text says a theory with fatal findings: these, its warnings, and how many there are
pub record IsReviewRefusal (bytes text : List ℕ) (status : Status) : Type 0 where
  pub reviewed : IsReviewed bytes text false
  pub status_is : status ≡ Refused

abbrev pub IsDoneWith : Command → ℕ → Option (List ℕ) → List ℕ → List ℕ → Status → Type 0
IsDoneWith Prove budget chosen bytes text status = IsTried budget chosen bytes text status
IsDoneWith Check budget chosen bytes text status = IsChecked chosen bytes text status
IsDoneWith Replay budget chosen bytes text status = IsStepRefusal bytes text status ⊎ IsReplayed bytes text status
IsDoneWith Variants budget chosen bytes text status = HasVariants bytes text status
IsDoneWith Wf budget chosen bytes text status = IsFineReview bytes text status
IsDoneWith Graph budget chosen bytes text status = IsPictured budget chosen bytes text status
IsDoneWith Gen budget chosen bytes text status = IsCounted budget chosen bytes text status

-- what is asked of the text is refused: the name of the lemma that alone is meant, or a line that is to be replayed
abbrev pub IsAskedRefusal : Command → Option (List ℕ) → List ℕ → List ℕ → Status → Type 0
IsAskedRefusal Prove chosen bytes text status = IsLemmaRefusal chosen bytes text status
IsAskedRefusal Check chosen bytes text status = IsLemmaRefusal chosen bytes text status
IsAskedRefusal Replay chosen bytes text status = IsLineRefusal bytes text status
IsAskedRefusal Variants chosen bytes text status = ⊥
IsAskedRefusal Wf chosen bytes text status = ⊥
IsAskedRefusal Graph chosen bytes text status = IsLemmaRefusal chosen bytes text status
IsAskedRefusal Gen chosen bytes text status = IsLemmaRefusal chosen bytes text status

-- a theory with fatal findings is refused by its report; `wf` tells how many lines that has, too
abbrev pub IsTheoryRefusal : Command → List ℕ → List ℕ → Status → Type 0
IsTheoryRefusal Wf bytes text status = IsReviewRefusal bytes text status
IsTheoryRefusal command bytes text status = IsReport bytes text status

-- the text is refused, its theory, or what is asked of it
abbrev pub IsRefusedWith : Command → Option (List ℕ) → List ℕ → List ℕ → Status → Type 0
IsRefusedWith command chosen bytes text status = IsRefusal bytes text status ⊎ IsTheoryRefusal command bytes text status ⊎ IsAskedRefusal command chosen bytes text status

-- what the command answers to the bytes of a text, within so many moves, and of the lemma that is named, if one is
abbrev pub CommandAnswer : Command → ℕ → Option (List ℕ) → List ℕ → List ℕ → Status → Type 0
CommandAnswer command budget chosen bytes text status = IsRefusedWith command chosen bytes text status ⊎ IsDoneWith command budget chosen bytes text status

-- what is answered to the bytes of a text, as it was asked for
abbrev pub TextAnswer : Request → List ℕ → List ℕ → Status → Type 0
TextAnswer request bytes text status = CommandAnswer request.command request.budget request.lemma bytes text status

-- whatever is told is more bytes than a text may have
abbrev pub MayBeTooLong : Option (Option (List ℕ)) → Type 0
MayBeTooLong told = ForSome told (λ content. IsSomeAnd content (λ bytes. text_limit < length bytes))

-- whatever is told is these bytes, which are within the limit
abbrev pub MayBeText : Option (Option (List ℕ)) → List ℕ → Type 0
MayBeText told bytes = (length bytes ≤ text_limit) × ForSome told (λ content. content ≡ Some bytes)

-- the words are no line of the command
pub record IsUsage (words : List (List ℕ)) (text : List ℕ) (status : Status) : Type 0 where
  pub no_line : IsNoLine words
  pub text_is : text ≡ codes "refused: usage\n"
  pub status_is : status ≡ Usage

-- a text is fetched, and the library's count of faults rose, or it tells that it holds nothing under the name
pub record IsReadFault (request : Request) (told : Option (Option (List ℕ))) (before now : ℕ) (text : List ℕ) (status : Status) : Type 0 where
  pub file : List ℕ
  pub about : IsAbout request file
  pub cause : Rose before now ⊎ (told ≡ Some None)
  pub text_is : text ≡ codes "refused: read fault\n"
  pub status_is : status ≡ ReadFault

-- the text has too many bytes
pub record IsTooLong (told : Option (Option (List ℕ))) (text : List ℕ) (status : Status) : Type 0 where
  pub longer : MayBeTooLong told
  pub text_is : text ≡ codes "refused: text longer than 1048576 bytes\n"
  pub status_is : status ≡ TooLong

-- there is a text, and this is what is answered to it
pub record IsTextAnswer (request : Request) (told : Option (Option (List ℕ))) (text : List ℕ) (status : Status) : Type 0 where
  pub bytes : List ℕ
  pub agrees : MayBeText told bytes
  pub answer : TextAnswer request bytes text status

-- what is answered, by what is told of the text that was asked for and the library's count of faults before and now
abbrev pub IsFileAnswer : Request → Option (Option (List ℕ)) → ℕ → ℕ → List ℕ → Status → Type 0
IsFileAnswer request told before now text status = IsReadFault request told before now text status ⊎ IsTooLong told text status ⊎ IsTextAnswer request told text status

-- the answer to a line of the command
pub record IsLineAnswer (words : List (List ℕ)) (holds : List ℕ → Option (Option (List ℕ))) (before now : ℕ) (text : List ℕ) (status : Status) : Type 0 where
  pub request : Request
  pub line : IsLine words request
  pub answer : IsFileAnswer request (told holds request) before now text status

-- the whole answer to the words
abbrev pub IsAnswer : List (List ℕ) → (List ℕ → Option (Option (List ℕ))) → ℕ → ℕ → List ℕ → Status → Type 0
IsAnswer words holds before now text status = IsUsage words text status ⊎ IsLineAnswer words holds before now text status

-- What the top call promises, clause by clause. `before` and `now` are a count of faults before and after the call.
use Rattle.std.specs.Prelude.{◌≡◌, ◌≢◌, ◌⊎◌, ◌≤◌, ◌<◌, ℕ, List, Option, Some, None, length, take}
use Rattle.sp_io.specs.Told.{Rose, extended, IsExtendedByPrefix}
use Rattle.sp_top.specs.Answer.{text_limit, status_of, verdicts_of, verdicts_on, IsStepRefusal, IsReplayed, HasVariants, IsFineReview, TextAnswer, MayBeTooLong, MayBeText, IsAnswer}
use Rattle.sp_top.specs.Command.{Request, fetched, told, IsLine, IsNoLine}
use Rattle.sp_top.specs.declared.Status.{Status}
use Rattle.sp_top.specs.declared.Status.TheVariants.{Fine, Falsified, Incomplete, Rejected, Refused, Usage, ReadFault, WriteFault, NoMemory, TooLong}
use Rattle.sp_spec.specs.Lists.{Member, Every}
use Rattle.sp_spec.specs.Written.{theory_of}
use Rattle.sp_analysis.specs.Analysis.{Outcome, IsAnalysis}
use Rattle.sp_analysis.specs.Shown.{graphs, counts}
use Rattle.sp_spec.specs.Theory.{Theory}
use Rattle.sp_spec_text.specs.Written.{WrittenText}
use Rattle.sp_spec_text.specs.Declared.{theory_in}
use Rattle.sp_pose.specs.Problem.{Poses}
use Rattle.sp_analysis.specs.Checking.{Judged, IsChecking}
use Rattle.sp_analysis.specs.Laws.{Means, IsSpent, JudgedRightly, StandsBehind, IsCheckedAgain}
use Rattle.sp_analysis.specs.Replies.{LacksLemma}
use Rattle.sp_words.specs.declared.Command.{Command}
use Rattle.sp_words.specs.declared.Command.TheVariants.{Prove, Check, Replay, Variants, Wf, Graph, Gen}

-- a fault of the sink or want of memory came before another cause could show
abbrev pub IsCutShort : Status → Type 0
IsCutShort status = (status ≡ WriteFault) ⊎ (status ≡ NoMemory)

-- the answer has verdicts on the lemmas of the text, or tells what became of steps, or which forms its rules have
abbrev pub HasVerdicts : Status → Type 0
HasVerdicts status = (status ≡ Fine) ⊎ (status ≡ Falsified) ⊎ (status ≡ Incomplete) ⊎ (status ≡ Rejected)

-- Usage comes exactly where the words are no line of the command
pub record UsageExactly (words : List (List ℕ)) (status : Status) : Type 0 where
  pub cause : status ≡ Usage → IsNoLine words
  pub comes : IsNoLine words → ¬ IsCutShort status → status ≡ Usage

-- Each lemma of the text is tried within so many moves, or the one that is named, and each verdict is so. A lemma on all traces that is verified holds in every execution of the theory that
-- the text says that meets its restrictions, steps of the adversary included, and one that is falsified is broken by the execution that is written behind
-- its line, which meets them. One on some trace that is verified is satisfied by that execution, and one that is falsified holds in none. An analysis that is incomplete has made as many moves as it may. The verdicts stand
-- behind the word `end` of what is written. Where no lemma is named, that says the same theory with the proofs that were grown, and is checked as it was tried.
pub record TriedRightly (budget : ℕ) (chosen : Option (List ℕ)) (bytes answer : List ℕ) (status : Status) : Type 0 where
  pub outcomes : List Outcome
  pub analysis : IsAnalysis budget chosen bytes answer outcomes
  pub status_is : status ≡ status_of (verdicts_of outcomes)
  pub right : Every (λ (o : Outcome). Means (theory_of (theory_in analysis.theory)) o.lemma.kind o.verdict o.log o.lemma) outcomes
  pub spent : Every (IsSpent budget) outcomes
  pub behind : StandsBehind analysis.theory answer outcomes
  pub again : chosen ≡ None → IsCheckedAgain analysis.theory answer outcomes

-- The proof of each lemma is checked, or of the one that is named, each verdict is so, and a proof is accepted exactly where its every step is an instance of a move, with
-- the cases of that move.
pub record CheckedRightly (chosen : Option (List ℕ)) (bytes answer : List ℕ) (status : Status) : Type 0 where
  pub judged : List Judged
  pub checking : IsChecking chosen bytes answer judged
  pub status_is : status ≡ status_of (verdicts_on judged)
  pub right : Every (JudgedRightly checking.theory) judged

-- Each lemma is tried, or the one that is named, and its verdict is so, as where its proof is written, as is the number of moves of an incomplete analysis; this is written of the outcomes.
pub record ShownRightly (budget : ℕ) (chosen : Option (List ℕ)) (shows : Theory → List Outcome → List ℕ) (bytes answer : List ℕ) (status : Status) : Type 0 where
  pub outcomes : List Outcome
  pub analysed : List ℕ
  pub analysis : IsAnalysis budget chosen bytes analysed outcomes
  pub status_is : status ≡ status_of (verdicts_of outcomes)
  pub right : Every (λ (o : Outcome). Means (theory_of (theory_in analysis.theory)) o.lemma.kind o.verdict o.log o.lemma) outcomes
  pub spent : Every (IsSpent budget) outcomes
  pub answer_is : answer ≡ shows (theory_of (theory_in analysis.theory)) outcomes

-- The steps behind the text are an execution, whose trace is written with what is true over it, or the first that can't be done is named; and the
-- rules that are written have these forms. The findings on the theory are told, with the warnings. The graph is that of a log that breaks its lemma or satisfies
-- it, as its verdict says, and the verdicts that are counted are so.
abbrev pub DoneRightly : Command → ℕ → Option (List ℕ) → List ℕ → List ℕ → Status → Type 0
DoneRightly Prove budget chosen bytes answer status = TriedRightly budget chosen bytes answer status
DoneRightly Check budget chosen bytes answer status = CheckedRightly chosen bytes answer status
DoneRightly Replay budget chosen bytes answer status = IsStepRefusal bytes answer status ⊎ IsReplayed bytes answer status
DoneRightly Variants budget chosen bytes answer status = HasVariants bytes answer status
DoneRightly Wf budget chosen bytes answer status = IsFineReview bytes answer status
DoneRightly Graph budget chosen bytes answer status = ShownRightly budget chosen graphs bytes answer status
DoneRightly Gen budget chosen bytes answer status = ShownRightly budget chosen (λ theory. counts) bytes answer status

module _ (words : List (List ℕ)) (holds : List ℕ → Option (Option (List ℕ))) where
  -- ReadFault comes only where the count of faults rose or absence is told of a text that is fetched, and always where absence is told
  pub record ReadFaultExactly (before now : ℕ) (status : Status) : Type 0 where
    pub cause : status ≡ ReadFault → (request : Request) × (file : List ℕ) × IsLine words request × Member file (fetched request) × (Rose before now ⊎ (holds file ≡ Some None))
    pub comes : (request : Request) (file : List ℕ) → IsLine words request → Member file (fetched request) → holds file ≡ Some None → ¬ IsCutShort status → status ≡ ReadFault

  -- TooLong comes exactly where the text that is asked for has more bytes than the limit
  pub record TooLongExactly (status : Status) : Type 0 where
    pub cause : status ≡ TooLong → (request : Request) × IsLine words request × MayBeTooLong (told holds request)
    pub comes : (request : Request) (bytes : List ℕ) → IsLine words request → told holds request ≡ Some (Some bytes) → text_limit < length bytes
        → ¬ IsCutShort status → status ≢ ReadFault → status ≡ TooLong

  -- Fine, Falsified, Incomplete, Rejected and Refused come exactly where the answer to the text has them
  pub record AnswersExactly (kind status : Status) : Type 0 where
    pub cause : status ≡ kind → (request : Request) × (bytes text : List ℕ) × IsLine words request × MayBeText (told holds request) bytes × TextAnswer request bytes text kind
    pub comes : (request : Request) (bytes text : List ℕ) → IsLine words request → told holds request ≡ Some (Some bytes) → length bytes ≤ text_limit → TextAnswer request bytes text kind
        → ¬ IsCutShort status → status ≢ ReadFault → status ≡ kind

  -- of a text without fatal findings at most a line behind it is refused, or it lacks the lemma that is named
  pub record PosedIsAnswered (status : Status) : Type 0 where
    pub cause : (request : Request) (bytes : List ℕ) (theory : WrittenText) → IsLine words request → told holds request ≡ Some (Some bytes)
        → Poses bytes theory → status ≡ Refused → (request.command ≡ Replay) ⊎ LacksLemma request.lemma bytes

  -- the answer is the one that was asked for, to the bytes of the text, and what it says of each lemma is so
  pub record IsRight (answer : List ℕ) (status : Status) : Type 0 where
    pub request : Request
    pub bytes : List ℕ
    pub line : IsLine words request
    pub text : MayBeText (told holds request) bytes
    pub right : DoneRightly request.command request.budget request.lemma bytes answer status

  -- The headline: what is written of each lemma is so. Where the sink failed, this is said of the answer of which a prefix stands.
  pub record VerdictsHold (before now : ℕ) (old new : Option (List ℕ)) (status : Status) : Type 0 where
    pub whole : HasVerdicts status → (answer : List ℕ) × IsRight answer status × (new ≡ extended old answer)
    pub prefix : (answer : List ℕ) (full : Status) → HasVerdicts full → IsAnswer words holds before now answer full → IsRight answer full

  -- but after a fault of the sink or for want of memory, the whole answer stands written
  pub record WritesWhole (before now : ℕ) (old new : Option (List ℕ)) (status : Status) : Type 0 where
    pub whole : ¬ IsCutShort status → (text : List ℕ) × IsAnswer words holds before now text status × (new ≡ extended old text)

  -- after a fault of the sink, a prefix of the whole answer stands written
  pub record WritesPrefix (before now : ℕ) (old new : Option (List ℕ)) (status : Status) : Type 0 where
    pub prefix : status ≡ WriteFault → (text : List ℕ) × (full : Status) × IsAnswer words holds before now text full × IsExtendedByPrefix old new text

  -- a text that is told and within the limit gets its answer, but for faults and want of memory
  pub record IsComplete (before now sink_before sink_now : ℕ) (old new : Option (List ℕ)) (status : Status) : Type 0 where
    pub complete : (request : Request) (bytes : List ℕ) → IsLine words request → told holds request ≡ Some (Some bytes) → length bytes ≤ text_limit
        → ¬ Rose before now → ¬ Rose sink_before sink_now → (status ≡ NoMemory) ⊎ ((text : List ℕ) × TextAnswer request bytes text status × (new ≡ extended old text))

-- WriteFault comes only where the sink's count of faults rose
pub record WriteFaultOnly (before now : ℕ) (status : Status) : Type 0 where
  pub cause : status ≡ WriteFault → Rose before now

-- for want of memory nothing was written
pub record WritesNothing (before now : ℕ) (old new : Option (List ℕ)) (status : Status) : Type 0 where
  pub written : status ≡ NoMemory → new ≡ old
  pub faults : status ≡ NoMemory → now ≡ before

-- What the request fetches is asked of the library, and for want of memory perhaps only the first of it; where the words are no line nothing is
pub record AsksAsRequested (words : List (List ℕ)) (old new : Option (List (List ℕ))) (status : Status) : Type 0 where
  pub no_line : IsNoLine words → new ≡ old
  pub at_most : (request : Request) → IsLine words request → (n : ℕ) × (new ≡ extended old (take n (fetched request)))
  pub all : (request : Request) → IsLine words request → status ≢ NoMemory → new ≡ extended old (fetched request)

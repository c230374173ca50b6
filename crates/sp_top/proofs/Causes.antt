-- Each status has its cause, since it is that of the whole answer.
use Rattle.std.proofs.Common.{◌≡◌, ◌≢◌, ◌⊎◌, ◌≤◌, ◌<◌, ℕ, List, [], ◌∷◌, Option, Some, None, length, take, refl, sym, ap, subst, ◌∙◌, append-nil, inl, inr, arith}
use Rattle.sp_io.specs.Told.{Rose, extended}
use Rattle.sp_top.specs.Answer.{text_limit, TextAnswer, MayBeTooLong, MayBeText, IsFileAnswer, IsLineAnswer, IsAnswer}
use Rattle.sp_spec.specs.Lists.{Member}
use Rattle.sp_spec_text.specs.Written.{WrittenText}
use Rattle.sp_pose.specs.Problem.{Poses}
use Rattle.sp_top.specs.Command.{Request, fetched, fetched_for, IsAbout, told, told_of, request_by, IsLine, IsNoLine}
use Rattle.sp_top.specs.Run.{IsCutShort, UsageExactly, ReadFaultExactly, TooLongExactly, AnswersExactly, PosedIsAnswered, HasVerdicts, IsRight, VerdictsHold}
use Rattle.sp_words.specs.Line.{Text, of_file, made_of}
use Rattle.sp_words.specs.declared.Command.TheVariants.{Replay}
use Rattle.sp_words.proofs.Asking.{line_asks_once}
use Rattle.sp_analysis.specs.Replies.{LacksLemma}
use Rattle.sp_top.proofs.TextStatus.{IsTextStatus, text_status, verdicts_status, status_is_one, why_refused, verdicts_are_done, done_rightly}
use Rattle.sp_top.specs.declared.Status.{Status}
use Rattle.sp_top.specs.declared.Status.TheVariants.{Refused, Usage, ReadFault, WriteFault, NoMemory, TooLong}

-- a line asks for one thing
pub line_asks_one : (words : List (List ℕ)) (request other : Request) → IsLine words request → IsLine words other → request ≡ other
line_asks_one words request other (r, line, here) (q, again, there) = here ∙ ap request_by (line_asks_once words r q line again) ∙ sym there

-- what is fetched is the text that it is about
pub fetched_is_about : (request : Request) (file : List ℕ) → Member file (fetched request) → IsAbout request file
fetched_is_about request file m = at request.text m
  where
    at : (text : Text) → Member file (fetched_for text) → text ≡ of_file file
    at (of_file name) (inl e) = ap of_file e
    at (of_file name) (inr none) = absurd none
    at (made_of n) none = absurd none

pub about_member : (request : Request) (file : List ℕ) → IsAbout request file → Member file (fetched request)
about_member request file about = subst (Member file) (sym (ap fetched_for about)) (inl refl)

-- and what is told of that text is what the library tells
pub told_about : (holds : List ℕ → Option (Option (List ℕ))) (request : Request) (file : List ℕ) → IsAbout request file → told holds request ≡ holds file
told_about holds request file about = ap (told_of holds) about

-- the whole answer, or the cause why there is none
abbrev pub Ends : List (List ℕ) → (List ℕ → Option (Option (List ℕ))) → ℕ → ℕ → Status → Type 0
Ends words holds before now status = IsCutShort status ⊎ ((text : List ℕ) × IsAnswer words holds before now text status)

-- the answer to a line is the answer about its text
pub answer_of_line : (words : List (List ℕ)) (holds : List ℕ → Option (Option (List ℕ))) (before now : ℕ) (text : List ℕ) (request : Request) (status : Status)
    → IsLine words request → IsAnswer words holds before now text status → IsFileAnswer request (told holds request) before now text status
answer_of_line words holds before now text request status line (inl usage) = absurd (usage.no_line request line)
answer_of_line words holds before now text request status line (inr a) =
    let P : Request → Type 0 = λ asked. IsFileAnswer asked (told holds asked) before now text status in
    subst P (line_asks_one words a.request request a.line line) a.answer

-- a status that is none of the two
whole_is : (status other : Status) → status ≡ other → other ≢ WriteFault → other ≢ NoMemory → ¬ IsCutShort status
whole_is status other e f g (inl h) = f (sym e ∙ h)
whole_is status other e f g (inr h) = g (sym e ∙ h)

-- an answer's status is neither a fault of the sink nor want of memory
pub answer_is_whole : (words : List (List ℕ)) (holds : List ℕ → Option (Option (List ℕ))) (before now : ℕ) (text : List ℕ) (status : Status)
    → IsAnswer words holds before now text status → ¬ IsCutShort status
answer_is_whole words holds before now text status (inl usage) = whole_is status Usage usage.status_is (λ e. cc) (λ e. cc)
answer_is_whole words holds before now text status (inr a) = at a.answer
  where
    at : IsFileAnswer a.request (told holds a.request) before now text status → ¬ IsCutShort status
    at (inl fault) = whole_is status ReadFault fault.status_is (λ e. cc) (λ e. cc)
    at (inr (inl long)) = whole_is status TooLong long.status_is (λ e. cc) (λ e. cc)
    at (inr (inr known)) =
        let kind = text_status a.request.command a.request.budget a.request.lemma known.bytes text status known.answer in
        whole_is status status refl kind.write_fault kind.no_memory

module _ (words : List (List ℕ)) (holds : List ℕ → Option (Option (List ℕ))) (before now : ℕ) where
  pub usage_exactly : (status : Status) → Ends words holds before now status → UsageExactly words status
  usage_exactly status (inl short) = record { cause = λ e. absurd (whole_is status Usage e (λ f. cc) (λ f. cc) short); comes = λ no_line whole. absurd (whole short) }
  usage_exactly status (inr (text, inl usage)) = record { cause = λ e. usage.no_line; comes = λ no_line whole. usage.status_is }
  usage_exactly status (inr (text, inr a)) = record { cause = cause a.answer; comes = λ no_line whole. absurd (no_line a.request a.line) }
    where
      cause : IsFileAnswer a.request (told holds a.request) before now text status → status ≡ Usage → IsNoLine words
      cause (inl fault) e = let f = fault.status_is in cc
      cause (inr (inl long)) e = let f = long.status_is in cc
      cause (inr (inr known)) e = absurd ((text_status a.request.command a.request.budget a.request.lemma known.bytes text status known.answer).usage e)

  pub read_fault_exactly : (status : Status) → Ends words holds before now status → ReadFaultExactly words holds before now status
  read_fault_exactly status (inl short) = record { cause = λ e. absurd (whole_is status ReadFault e (λ f. cc) (λ f. cc) short); comes = λ request file line among absent whole. absurd (whole short) }
  read_fault_exactly status (inr (text, answer)) =
      record { cause = cause answer; comes = λ request file line among absent whole. comes request (told_about holds request file (fetched_is_about request file among) ∙ absent) (answer_of_line words holds before now text request status line answer) }
    where
      cause_of : (a : IsLineAnswer words holds before now text status) → IsFileAnswer a.request (told holds a.request) before now text status → status ≡ ReadFault
          → (request : Request) × (file : List ℕ) × IsLine words request × Member file (fetched request) × (Rose before now ⊎ (holds file ≡ Some None))
      cause_of a (inl fault) e =
          (a.request, fault.file, a.line, about_member a.request fault.file fault.about, subst (λ (o : Option (Option (List ℕ))). Rose before now ⊎ (o ≡ Some None)) (told_about holds a.request fault.file fault.about) fault.cause)
      cause_of a (inr (inl long)) e = let f = long.status_is in cc
      cause_of a (inr (inr known)) e = absurd ((text_status a.request.command a.request.budget a.request.lemma known.bytes text status known.answer).read_fault e)

      cause : IsAnswer words holds before now text status → status ≡ ReadFault → (request : Request) × (file : List ℕ) × IsLine words request × Member file (fetched request) × (Rose before now ⊎ (holds file ≡ Some None))
      cause (inl usage) e = let f = usage.status_is in cc
      cause (inr a) e = cause_of a a.answer e

      comes : (request : Request) → told holds request ≡ Some None → IsFileAnswer request (told holds request) before now text status → status ≡ ReadFault
      comes request absent (inl fault) = fault.status_is
      comes request absent (inr (inl long)) = absurd (long.longer None absent)
      comes request absent (inr (inr known)) = let e = known.agrees.1 None absent in cc

  pub too_long_exactly : (status : Status) → Ends words holds before now status → TooLongExactly words holds status
  too_long_exactly status (inl short) = record { cause = λ e. absurd (whole_is status TooLong e (λ f. cc) (λ f. cc) short); comes = λ request bytes line telling more whole read. absurd (whole short) }
  too_long_exactly status (inr (text, answer)) =
      record {
        cause = cause answer;
        comes = λ request bytes line telling more whole read. comes request bytes telling more read (answer_of_line words holds before now text request status line answer);
      }
    where
      cause_of : (a : IsLineAnswer words holds before now text status) → IsFileAnswer a.request (told holds a.request) before now text status → status ≡ TooLong
          → (request : Request) × IsLine words request × MayBeTooLong (told holds request)
      cause_of a (inl fault) e = let f = fault.status_is in cc
      cause_of a (inr (inl long)) e = (a.request, a.line, long.longer)
      cause_of a (inr (inr known)) e = absurd ((text_status a.request.command a.request.budget a.request.lemma known.bytes text status known.answer).too_long e)

      cause : IsAnswer words holds before now text status → status ≡ TooLong → (request : Request) × IsLine words request × MayBeTooLong (told holds request)
      cause (inl usage) e = let f = usage.status_is in cc
      cause (inr a) e = cause_of a a.answer e

      comes : (request : Request) (bytes : List ℕ) → told holds request ≡ Some (Some bytes) → text_limit < length bytes → status ≢ ReadFault → IsFileAnswer request (told holds request) before now text status
          → status ≡ TooLong
      comes request bytes telling more read (inl fault) = absurd (read fault.status_is)
      comes request bytes telling more read (inr (inl long)) = long.status_is
      comes request bytes telling more read (inr (inr known)) =
          let e = known.agrees.1 (Some bytes) telling in
          let same : bytes ≡ known.bytes = cc in
          absurd (omega (arith, ap length same, known.agrees.0, more))

  pub answers_exactly : (kind status : Status) → IsTextStatus kind → Ends words holds before now status → AnswersExactly words holds kind status
  answers_exactly kind status is_text (inl short) =
      record {
        cause = λ e. absurd (whole_is status kind e is_text.write_fault is_text.no_memory short);
        comes = λ request bytes text line telling within answer whole read. absurd (whole short);
      }
  answers_exactly kind status is_text (inr (text, answer)) =
      record {
        cause = cause answer;
        comes = λ request bytes other line telling within answered whole read.
            comes request bytes other telling within answered read (answer_of_line words holds before now text request status line answer);
      }
    where
      cause_of : (a : IsLineAnswer words holds before now text status) → IsFileAnswer a.request (told holds a.request) before now text status → status ≡ kind
          → (request : Request) × (bytes other : List ℕ) × IsLine words request × MayBeText (told holds request) bytes × TextAnswer request bytes other kind
      cause_of a (inl fault) e = absurd (is_text.read_fault (sym e ∙ fault.status_is))
      cause_of a (inr (inl long)) e = absurd (is_text.too_long (sym e ∙ long.status_is))
      cause_of a (inr (inr known)) e =
          let P : Status → Type 0 = λ s. TextAnswer a.request known.bytes text s in
          (a.request, known.bytes, text, a.line, known.agrees, subst P e known.answer)

      cause : IsAnswer words holds before now text status → status ≡ kind
          → (request : Request) × (bytes other : List ℕ) × IsLine words request × MayBeText (told holds request) bytes × TextAnswer request bytes other kind
      cause (inl usage) e = absurd (is_text.usage (sym e ∙ usage.status_is))
      cause (inr a) e = cause_of a a.answer e

      comes : (request : Request) (bytes other : List ℕ) → told holds request ≡ Some (Some bytes) → length bytes ≤ text_limit → TextAnswer request bytes other kind → status ≢ ReadFault
          → IsFileAnswer request (told holds request) before now text status → status ≡ kind
      comes request bytes other telling within answered read (inl fault) = absurd (read fault.status_is)
      comes request bytes other telling within answered read (inr (inl long)) =
          let more : text_limit < length bytes = long.longer (Some bytes) telling in
          absurd (omega (arith, within, more))
      comes request bytes other telling within answered read (inr (inr known)) =
          let e = known.agrees.1 (Some bytes) telling in
          let P : List ℕ → Type 0 = λ b. TextAnswer request b text status in
          let same : known.bytes ≡ bytes = cc in
          status_is_one request.command request.budget request.lemma bytes other text kind status answered (subst P same known.answer)

  -- a text that poses a theory is answered
  pub posed_is_answered : (text : List ℕ) (status : Status) → IsAnswer words holds before now text status → PosedIsAnswered words holds status
  posed_is_answered text status answer = record {
    cause = λ request bytes theory line telling posing refused. why request bytes theory telling posing refused (answer_of_line words holds before now text request status line answer);
  }
    where
      why : (request : Request) (bytes : List ℕ) (theory : WrittenText) → told holds request ≡ Some (Some bytes) → Poses bytes theory → status ≡ Refused
          → IsFileAnswer request (told holds request) before now text status → (request.command ≡ Replay) ⊎ LacksLemma request.lemma bytes
      why request bytes theory telling posing refused (inl fault) = let f : Refused ≡ ReadFault = sym refused ∙ fault.status_is in cc
      why request bytes theory telling posing refused (inr (inl long)) = let f : Refused ≡ TooLong = sym refused ∙ long.status_is in cc
      why request bytes theory telling posing refused (inr (inr known)) =
          let e = known.agrees.1 (Some bytes) telling in
          let P : List ℕ → Type 0 = λ b. TextAnswer request b text status in
          let same : known.bytes ≡ bytes = cc in
          why_refused request.command request.budget request.lemma bytes text status theory posing (subst P same known.answer) refused

  pub posed_short : (status : Status) → IsCutShort status → PosedIsAnswered words holds status
  posed_short status short = record {
    cause = λ request bytes theory line telling posing refused. absurd (whole_is status Refused refused (λ e. cc) (λ e. cc) short);
  }

  -- what an answer with verdicts says of each lemma is so
  pub answer_is_right : (text : List ℕ) (status : Status) → HasVerdicts status → IsAnswer words holds before now text status → IsRight words holds text status
  answer_is_right text status h (inl usage) = absurd ((verdicts_status status h).usage usage.status_is)
  answer_is_right text status h (inr a) = at a.answer
    where
      at : IsFileAnswer a.request (told holds a.request) before now text status → IsRight words holds text status
      at (inl fault) = absurd ((verdicts_status status h).read_fault fault.status_is)
      at (inr (inl long)) = absurd ((verdicts_status status h).too_long long.status_is)
      at (inr (inr known)) = record {
        request = a.request;
        bytes = known.bytes;
        line = a.line;
        text = known.agrees;
        right =
            done_rightly a.request.command a.request.budget a.request.lemma known.bytes text status
            (verdicts_are_done a.request.command a.request.budget a.request.lemma known.bytes text status h known.answer);
      }

  pub headline : (old new : Option (List ℕ)) (text : List ℕ) (status : Status) → IsAnswer words holds before now text status → new ≡ extended old text
      → VerdictsHold words holds before now old new status
  headline old new text status answer written = record {
    whole = λ h. (text, answer_is_right text status h answer, written);
    prefix = answer_is_right;
  }

  pub headline_short : (old new : Option (List ℕ)) (status : Status) → IsCutShort status → VerdictsHold words holds before now old new status
  headline_short old new status short = record {
    whole = λ h. absurd (elim short [ inl e ↦ (verdicts_status status h).write_fault e | inr e ↦ (verdicts_status status h).no_memory e ]);
    prefix = answer_is_right;
  }

  -- a text that is told gets its answer
  pub text_is_answered : (text : List ℕ) (request : Request) (bytes : List ℕ) (status : Status) → IsFileAnswer request (told holds request) before now text status
      → told holds request ≡ Some (Some bytes) → length bytes ≤ text_limit → ¬ Rose before now → TextAnswer request bytes text status
  text_is_answered text request bytes status (inl fault) telling within still = elim fault.cause [ inl rose ↦ absurd (still rose) | inr absent ↦ cc ]
  text_is_answered text request bytes status (inr (inl long)) telling within still =
      let more : text_limit < length bytes = long.longer (Some bytes) telling in
      absurd (omega (arith, within, more))
  text_is_answered text request bytes status (inr (inr known)) telling within still =
      let e = known.agrees.1 (Some bytes) telling in
      let P : List ℕ → Type 0 = λ b. TextAnswer request b text status in
      let same : known.bytes ≡ bytes = cc in
      subst P same known.answer

-- ---- what is asked of the library

nothing_asked : {A : Type 0} (old : Option (List A)) → extended old [] ≡ old
nothing_asked None = refl
nothing_asked (Some told) = ap Some (append-nil told)

pub asked_first : (words : List (List ℕ)) (request : Request) (old new : Option (List (List ℕ))) → IsLine words request → (new ≡ old) ⊎ (new ≡ extended old (fetched request))
    → (n : ℕ) × (new ≡ extended old (take n (fetched request)))
asked_first words request old new line (inl none) = (0, none ∙ sym (nothing_asked old))
asked_first words request old new line (inr all) = at request.text refl
  where
    at : (text : Text) → request.text ≡ text → (n : ℕ) × (new ≡ extended old (take n (fetched request)))
    at (of_file file) is = let one : fetched request ≡ file ∷ [] = ap fetched_for is in (1, all ∙ ap (extended old) (one ∙ sym (ap (take 1) one)))
    at (made_of n) is = let none : fetched request ≡ [] = ap fetched_for is in (0, all ∙ ap (extended old) (none ∙ sym (ap (take 0) none)))

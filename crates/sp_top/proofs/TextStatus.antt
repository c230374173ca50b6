-- What the status of a text's answer can be. The proofs of the clauses on statuses rest on these laws alone.
use Rattle.std.proofs.Common.{◌≡◌, ◌≢◌, ◌⊎◌, ℕ, Bool, true, false, if◌then◌else◌, List, Option, Some, None, inl, inr, refl, sym, ap, ◌∙◌, subst}
use Rattle.std.specs.List.{list_any}
use Rattle.sp_spec_text.specs.Written.{WrittenText}
use Rattle.sp_pose.specs.Problem.{Poses}
use Rattle.sp_pose.proofs.One.{not_posed, review_is_wrong, one_review, refused_or_reviewed}
use Rattle.sp_analysis.specs.Analysis.{Outcome, IsAnalysis}
use Rattle.sp_analysis.specs.Laws.{IsCheckedAgain}
use Rattle.sp_analysis.specs.Replies.{LacksLemma}
use Rattle.sp_spec_printed.specs.Verdict.{Verdict}
use Rattle.sp_analysis.specs.Checking.{Judged}
use Rattle.sp_words.specs.declared.Command.{Command}
use Rattle.sp_words.specs.declared.Command.TheVariants.{Prove, Check, Replay, Variants, Wf, Graph, Gen}
use Rattle.sp_analysis.proofs.Right.{verdicts_are_right_lem}
use Rattle.sp_analysis.proofs.AnswersOne.{answers_are_one_lem}
use Rattle.sp_analysis.proofs.Again.{written_is_checked_lem}
use Rattle.sp_replay.proofs.One.{replies_are_one_lem}
use Rattle.sp_rule_forms.proofs.One.{lists_are_one_lem}
use Rattle.sp_analysis.specs.Shown.{is_falsified, is_incomplete}
use Rattle.sp_top.specs.Answer.{IsRefusal, IsTheoryRefusal, IsAskedRefusal, IsDoneWith, IsRefusedWith, CommandAnswer, is_rejected, status_of, verdicts_of, verdicts_on}
use Rattle.sp_top.specs.Run.{HasVerdicts, DoneRightly}
use Rattle.sp_top.specs.declared.Status.{Status}
use Rattle.sp_top.specs.declared.Status.TheVariants.{Fine, Falsified, Incomplete, Rejected, Refused, Usage, ReadFault, WriteFault, NoMemory, TooLong}

-- none of the statuses that come in place of a text's answer
pub record IsTextStatus (status : Status) : Type 0 where
  pub usage : status ≢ Usage
  pub read_fault : status ≢ ReadFault
  pub write_fault : status ≢ WriteFault
  pub no_memory : status ≢ NoMemory
  pub too_long : status ≢ TooLong

pub refused_status : IsTextStatus Refused
refused_status = record { usage = λ e. cc; read_fault = λ e. cc; write_fault = λ e. cc; no_memory = λ e. cc; too_long = λ e. cc }

fine_status : IsTextStatus Fine
fine_status = record { usage = λ e. cc; read_fault = λ e. cc; write_fault = λ e. cc; no_memory = λ e. cc; too_long = λ e. cc }

falsified_status : IsTextStatus Falsified
falsified_status = record { usage = λ e. cc; read_fault = λ e. cc; write_fault = λ e. cc; no_memory = λ e. cc; too_long = λ e. cc }

incomplete_status : IsTextStatus Incomplete
incomplete_status = record { usage = λ e. cc; read_fault = λ e. cc; write_fault = λ e. cc; no_memory = λ e. cc; too_long = λ e. cc }

rejected_status : IsTextStatus Rejected
rejected_status = record { usage = λ e. cc; read_fault = λ e. cc; write_fault = λ e. cc; no_memory = λ e. cc; too_long = λ e. cc }

-- a status with verdicts is that of a text's answer
pub verdicts_status : (status : Status) → HasVerdicts status → IsTextStatus status
verdicts_status status (inl e) = subst IsTextStatus (sym e) fine_status
verdicts_status status (inr (inl e)) = subst IsTextStatus (sym e) falsified_status
verdicts_status status (inr (inr (inl e))) = subst IsTextStatus (sym e) incomplete_status
verdicts_status status (inr (inr (inr e))) = subst IsTextStatus (sym e) rejected_status

-- and no refusal
verdicts_or_refused : (status : Status) → HasVerdicts status → status ≢ Refused
verdicts_or_refused status (inl e) r = let f : Fine ≡ Refused = sym e ∙ r in cc
verdicts_or_refused status (inr (inl e)) r = let f : Falsified ≡ Refused = sym e ∙ r in cc
verdicts_or_refused status (inr (inr (inl e))) r = let f : Incomplete ≡ Refused = sym e ∙ r in cc
verdicts_or_refused status (inr (inr (inr e))) r = let f : Rejected ≡ Refused = sym e ∙ r in cc

one_of_four : (some_rejected some_falsified some_incomplete : Bool) → HasVerdicts (if some_rejected then Rejected else if some_falsified then Falsified else if some_incomplete then Incomplete else Fine)
one_of_four true a b = inr (inr (inr refl))
one_of_four false true b = inr (inl refl)
one_of_four false false true = inr (inr (inl refl))
one_of_four false false false = inl refl

-- verdicts end with one of the four
status_of_verdicts : (vs : List Verdict) → HasVerdicts (status_of vs)
status_of_verdicts vs = one_of_four (list_any is_rejected vs) (list_any is_falsified vs) (list_any is_incomplete vs)

done_status : (command : Command) (budget : ℕ) (chosen : Option (List ℕ)) (bytes text : List ℕ) (status : Status) → IsDoneWith command budget chosen bytes text status → HasVerdicts status
done_status Prove budget chosen bytes text status a = subst HasVerdicts (sym a.status_is) (status_of_verdicts (verdicts_of a.outcomes))
done_status Check budget chosen bytes text status a = subst HasVerdicts (sym a.status_is) (status_of_verdicts (verdicts_on a.judged))
done_status Replay budget chosen bytes text status (inl s) = subst HasVerdicts (sym s.status_is) (inr (inr (inr refl)))
done_status Replay budget chosen bytes text status (inr r) = subst HasVerdicts (sym r.status_is) (inl refl)
done_status Variants budget chosen bytes text status r = subst HasVerdicts (sym r.status_is) (inl refl)
done_status Wf budget chosen bytes text status r = subst HasVerdicts (sym r.status_is) (inl refl)
done_status Graph budget chosen bytes text status a = subst HasVerdicts (sym a.status_is) (status_of_verdicts (verdicts_of a.outcomes))
done_status Gen budget chosen bytes text status a = subst HasVerdicts (sym a.status_is) (status_of_verdicts (verdicts_of a.outcomes))

asked_refused : (command : Command) (chosen : Option (List ℕ)) (bytes text : List ℕ) (status : Status) → IsAskedRefusal command chosen bytes text status → status ≡ Refused
asked_refused Prove chosen bytes text status r = r.status_is
asked_refused Check chosen bytes text status r = r.status_is
asked_refused Replay chosen bytes text status r = r.status_is
asked_refused Variants chosen bytes text status r = absurd r
asked_refused Wf chosen bytes text status r = absurd r
asked_refused Graph chosen bytes text status r = r.status_is
asked_refused Gen chosen bytes text status r = r.status_is

theory_refused : (command : Command) (bytes text : List ℕ) (status : Status) → IsTheoryRefusal command bytes text status → status ≡ Refused
theory_refused Prove bytes text status r = r.status_is
theory_refused Check bytes text status r = r.status_is
theory_refused Replay bytes text status r = r.status_is
theory_refused Variants bytes text status r = r.status_is
theory_refused Wf bytes text status r = r.status_is
theory_refused Graph bytes text status r = r.status_is
theory_refused Gen bytes text status r = r.status_is

refused_with : (command : Command) (chosen : Option (List ℕ)) (bytes text : List ℕ) (status : Status) → IsRefusedWith command chosen bytes text status → status ≡ Refused
refused_with command chosen bytes text status (inl r) = r.status_is
refused_with command chosen bytes text status (inr (inl r)) = theory_refused command bytes text status r
refused_with command chosen bytes text status (inr (inr r)) = asked_refused command chosen bytes text status r

pub text_status : (command : Command) (budget : ℕ) (chosen : Option (List ℕ)) (bytes text : List ℕ) (status : Status) → CommandAnswer command budget chosen bytes text status → IsTextStatus status
text_status command budget chosen bytes text status (inl r) = subst IsTextStatus (sym (refused_with command chosen bytes text status r)) refused_status
text_status command budget chosen bytes text status (inr done) = verdicts_status status (done_status command budget chosen bytes text status done)

-- a text that is refused or reported on isn't done with, nor one of which a line is refused
no_text_done : (command : Command) (budget : ℕ) (chosen : Option (List ℕ)) (bytes text other : List ℕ) (status another : Status) → IsRefusal bytes text status → IsDoneWith command budget chosen bytes other another → ⊥
no_text_done Prove budget chosen bytes text other status another r a = answers_are_one_lem.no_analysis budget chosen bytes other r.place a.outcomes r.refused a.analysis
no_text_done Check budget chosen bytes text other status another r a = answers_are_one_lem.no_checking chosen bytes other r.place a.judged r.refused a.checking
no_text_done Replay budget chosen bytes text other status another r (inl s) = replies_are_one_lem.refused_or_stopped bytes r.place s.number s.cause r.refused s.stopped
no_text_done Replay budget chosen bytes text other status another r (inr a) = replies_are_one_lem.refused_or_done bytes other r.place r.refused a.replay
no_text_done Variants budget chosen bytes text other status another r a = lists_are_one_lem.refused_or_listed bytes other r.place r.refused a.listed
no_text_done Wf budget chosen bytes text other status another r a = refused_or_reviewed r.refused a.reviewed
no_text_done Graph budget chosen bytes text other status another r a = answers_are_one_lem.no_analysis budget chosen bytes a.analysed r.place a.outcomes r.refused a.analysis
no_text_done Gen budget chosen bytes text other status another r a = answers_are_one_lem.no_analysis budget chosen bytes a.analysed r.place a.outcomes r.refused a.analysis

reported_done : (command : Command) (budget : ℕ) (chosen : Option (List ℕ)) (bytes text other : List ℕ) (status another : Status) → IsTheoryRefusal command bytes text status → IsDoneWith command budget chosen bytes other another → ⊥
reported_done Prove budget chosen bytes text other status another r a = answers_are_one_lem.not_analysed budget chosen bytes text other a.outcomes r.report a.analysis
reported_done Check budget chosen bytes text other status another r a = answers_are_one_lem.not_checked chosen bytes text other a.judged r.report a.checking
reported_done Replay budget chosen bytes text other status another r (inl s) = replies_are_one_lem.reported_or_stopped bytes text s.number s.cause r.report s.stopped
reported_done Replay budget chosen bytes text other status another r (inr a) = replies_are_one_lem.reported_or_done bytes text other r.report a.replay
reported_done Variants budget chosen bytes text other status another r a = lists_are_one_lem.reported_or_listed bytes text other r.report a.listed
reported_done Wf budget chosen bytes text other status another r a = let e : true ≡ false = (one_review a.reviewed r.reviewed).1 in cc
reported_done Graph budget chosen bytes text other status another r a = answers_are_one_lem.not_analysed budget chosen bytes text a.analysed a.outcomes r.report a.analysis
reported_done Gen budget chosen bytes text other status another r a = answers_are_one_lem.not_analysed budget chosen bytes text a.analysed a.outcomes r.report a.analysis

asked_done : (command : Command) (budget : ℕ) (chosen : Option (List ℕ)) (bytes text other : List ℕ) (status another : Status) → IsAskedRefusal command chosen bytes text status
    → IsDoneWith command budget chosen bytes other another → ⊥
asked_done Prove budget chosen bytes text other status another r a = answers_are_one_lem.analysed_or_lacking budget chosen bytes other a.outcomes a.analysis r.lacks
asked_done Check budget chosen bytes text other status another r a = answers_are_one_lem.checked_or_lacking chosen bytes other a.judged a.checking r.lacks
asked_done Replay budget chosen bytes text other status another r (inl s) = replies_are_one_lem.stopped_or_unread bytes s.number r.number s.cause s.stopped r.unread
asked_done Replay budget chosen bytes text other status another r (inr a) = replies_are_one_lem.done_or_unread bytes other r.number a.replay r.unread
asked_done Variants budget chosen bytes text other status another r a = absurd r
asked_done Wf budget chosen bytes text other status another r a = absurd r
asked_done Graph budget chosen bytes text other status another r a = answers_are_one_lem.analysed_or_lacking budget chosen bytes a.analysed a.outcomes a.analysis r.lacks
asked_done Gen budget chosen bytes text other status another r a = answers_are_one_lem.analysed_or_lacking budget chosen bytes a.analysed a.outcomes a.analysis r.lacks

refused_or_done : (command : Command) (budget : ℕ) (chosen : Option (List ℕ)) (bytes text other : List ℕ) (status another : Status) → IsRefusedWith command chosen bytes text status → IsDoneWith command budget chosen bytes other another → ⊥
refused_or_done command budget chosen bytes text other status another (inl r) a = no_text_done command budget chosen bytes text other status another r a
refused_or_done command budget chosen bytes text other status another (inr (inl r)) a = reported_done command budget chosen bytes text other status another r a
refused_or_done command budget chosen bytes text other status another (inr (inr r)) a = asked_done command budget chosen bytes text other status another r a

done_is_one : (command : Command) (budget : ℕ) (chosen : Option (List ℕ)) (bytes text other : List ℕ) (status another : Status) → IsDoneWith command budget chosen bytes text status → IsDoneWith command budget chosen bytes other another → another ≡ status
done_is_one Prove budget chosen bytes text other status another a b =
    let same = (answers_are_one_lem.one budget chosen bytes other text b.outcomes a.outcomes b.analysis a.analysis).1 in
    b.status_is ∙ ap (λ (os : List Outcome). status_of (verdicts_of os)) same ∙ sym a.status_is
done_is_one Check budget chosen bytes text other status another a b =
    let same = (answers_are_one_lem.one_check chosen bytes other text b.judged a.judged b.checking a.checking).1 in
    b.status_is ∙ ap (λ (js : List Judged). status_of (verdicts_on js)) same ∙ sym a.status_is
done_is_one Variants budget chosen bytes text other status another a b = b.status_is ∙ sym a.status_is
done_is_one Wf budget chosen bytes text other status another a b = b.status_is ∙ sym a.status_is
done_is_one Graph budget chosen bytes text other status another a b =
    let same = (answers_are_one_lem.one budget chosen bytes b.analysed a.analysed b.outcomes a.outcomes b.analysis a.analysis).1 in
    b.status_is ∙ ap (λ (os : List Outcome). status_of (verdicts_of os)) same ∙ sym a.status_is
done_is_one Gen budget chosen bytes text other status another a b =
    let same = (answers_are_one_lem.one budget chosen bytes b.analysed a.analysed b.outcomes a.outcomes b.analysis a.analysis).1 in
    b.status_is ∙ ap (λ (os : List Outcome). status_of (verdicts_of os)) same ∙ sym a.status_is
done_is_one Replay budget chosen bytes text other status another (inl s) (inl t) = t.status_is ∙ sym s.status_is
done_is_one Replay budget chosen bytes text other status another (inl s) (inr b) = absurd (replies_are_one_lem.done_or_stopped bytes other s.number s.cause b.replay s.stopped)
done_is_one Replay budget chosen bytes text other status another (inr a) (inl t) = absurd (replies_are_one_lem.done_or_stopped bytes text t.number t.cause a.replay t.stopped)
done_is_one Replay budget chosen bytes text other status another (inr a) (inr b) = b.status_is ∙ sym a.status_is

-- a text has one status, by each command
pub status_is_one : (command : Command) (budget : ℕ) (chosen : Option (List ℕ)) (bytes text other : List ℕ) (status another : Status) → CommandAnswer command budget chosen bytes text status → CommandAnswer command budget chosen bytes other another
    → another ≡ status
status_is_one command budget chosen bytes text other status another (inl r) (inl q) = refused_with command chosen bytes other another q ∙ sym (refused_with command chosen bytes text status r)
status_is_one command budget chosen bytes text other status another (inl r) (inr a) = absurd (refused_or_done command budget chosen bytes text other status another r a)
status_is_one command budget chosen bytes text other status another (inr a) (inl r) = absurd (refused_or_done command budget chosen bytes other text another status r a)
status_is_one command budget chosen bytes text other status another (inr a) (inr b) = done_is_one command budget chosen bytes text other status another a b

why_asked : (command : Command) (chosen : Option (List ℕ)) (bytes text : List ℕ) (status : Status) → IsAskedRefusal command chosen bytes text status → (command ≡ Replay) ⊎ LacksLemma chosen bytes
why_asked Prove chosen bytes text status r = inr r.lacks
why_asked Check chosen bytes text status r = inr r.lacks
why_asked Replay chosen bytes text status r = inl refl
why_asked Variants chosen bytes text status r = absurd r
why_asked Wf chosen bytes text status r = absurd r
why_asked Graph chosen bytes text status r = inr r.lacks
why_asked Gen chosen bytes text status r = inr r.lacks

-- a text that poses a theory isn't refused for what stands in that
theory_posed : (command : Command) (bytes text : List ℕ) (status : Status) (theory : WrittenText) → Poses bytes theory → IsTheoryRefusal command bytes text status → ⊥
theory_posed Prove bytes text status theory posing r = not_posed r.report posing
theory_posed Check bytes text status theory posing r = not_posed r.report posing
theory_posed Replay bytes text status theory posing r = not_posed r.report posing
theory_posed Variants bytes text status theory posing r = not_posed r.report posing
theory_posed Wf bytes text status theory posing r = review_is_wrong r.reviewed posing
theory_posed Graph bytes text status theory posing r = not_posed r.report posing
theory_posed Gen bytes text status theory posing r = not_posed r.report posing

-- a text that poses a theory is refused where a line of it is, or where it lacks the lemma that is named
pub why_refused : (command : Command) (budget : ℕ) (chosen : Option (List ℕ)) (bytes text : List ℕ) (status : Status) (theory : WrittenText) → Poses bytes theory → CommandAnswer command budget chosen bytes text status → status ≡ Refused
    → (command ≡ Replay) ⊎ LacksLemma chosen bytes
why_refused command budget chosen bytes text status theory posing (inl (inl r)) e = absurd (r.refused.nothing.none theory posing.says)
why_refused command budget chosen bytes text status theory posing (inl (inr (inl r))) e = absurd (theory_posed command bytes text status theory posing r)
why_refused command budget chosen bytes text status theory posing (inl (inr (inr r))) e = why_asked command chosen bytes text status r
why_refused command budget chosen bytes text status theory posing (inr a) e = absurd (verdicts_or_refused status (done_status command budget chosen bytes text status a) e)

-- what has verdicts is done with
pub verdicts_are_done : (command : Command) (budget : ℕ) (chosen : Option (List ℕ)) (bytes text : List ℕ) (status : Status) → HasVerdicts status → CommandAnswer command budget chosen bytes text status → IsDoneWith command budget chosen bytes text status
verdicts_are_done command budget chosen bytes text status h (inl r) = absurd (verdicts_or_refused status h (refused_with command chosen bytes text status r))
verdicts_are_done command budget chosen bytes text status h (inr a) = a

-- where no lemma is named, what was written is checked again
again_unnamed : (budget : ℕ) (chosen : Option (List ℕ)) (bytes text : List ℕ) (outcomes : List Outcome) (a : IsAnalysis budget chosen bytes text outcomes) → chosen ≡ None
    → IsCheckedAgain a.theory text outcomes
again_unnamed budget None bytes text outcomes a e = written_is_checked_lem.checked budget bytes text outcomes a
again_unnamed budget (Some name) bytes text outcomes a e = absurd cc

-- and what is said is so
pub done_rightly : (command : Command) (budget : ℕ) (chosen : Option (List ℕ)) (bytes text : List ℕ) (status : Status) → IsDoneWith command budget chosen bytes text status → DoneRightly command budget chosen bytes text status
done_rightly Prove budget chosen bytes text status a = record {
  outcomes = a.outcomes;
  analysis = a.analysis;
  status_is = a.status_is;
  right = verdicts_are_right_lem.right budget chosen bytes text a.outcomes a.analysis;
  spent = verdicts_are_right_lem.spent budget chosen bytes text a.outcomes a.analysis;
  behind = written_is_checked_lem.behind budget chosen bytes text a.outcomes a.analysis;
  again = again_unnamed budget chosen bytes text a.outcomes a.analysis;
}
done_rightly Check budget chosen bytes text status a = record {
  judged = a.judged;
  checking = a.checking;
  status_is = a.status_is;
  right = verdicts_are_right_lem.judged_right chosen bytes text a.judged a.checking;
}
done_rightly Replay budget chosen bytes text status a = a
done_rightly Variants budget chosen bytes text status a = a
done_rightly Wf budget chosen bytes text status a = a
done_rightly Graph budget chosen bytes text status a = record {
  outcomes = a.outcomes;
  analysed = a.analysed;
  analysis = a.analysis;
  status_is = a.status_is;
  right = verdicts_are_right_lem.right budget chosen bytes a.analysed a.outcomes a.analysis;
  spent = verdicts_are_right_lem.spent budget chosen bytes a.analysed a.outcomes a.analysis;
  answer_is = a.text_is;
}
done_rightly Gen budget chosen bytes text status a = record {
  outcomes = a.outcomes;
  analysed = a.analysed;
  analysis = a.analysis;
  status_is = a.status_is;
  right = verdicts_are_right_lem.right budget chosen bytes a.analysed a.outcomes a.analysis;
  spent = verdicts_are_right_lem.spent budget chosen bytes a.analysed a.outcomes a.analysis;
  answer_is = a.text_is;
}

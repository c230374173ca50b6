-- What is answered to a text.
use Rattle.std.proofs.Common.{◌≡◌, ◌∙◌, ℕ, suc, Bool, true, false, true≢false, List, ◌++◌, codes, Option, Some, None, ap, subst, inl, inr}
use Rattle.std.specs.Prelude.{decimal}
use Rattle.sp_spec.specs.Execution.{Cause}
use Rattle.sp_exec.specs.Replay.{rank}
use Rattle.sp_place.specs.Refused.{IsRefusedAt}
use Rattle.sp_pose.specs.Problem.{IsReported, IsReviewed}
use Rattle.sp_spec_printed.specs.Verdict.{Verdict}
use Rattle.sp_analysis.specs.Replies.{IsDone, LacksLemma}
use Rattle.sp_analysis.specs.declared.replies.Command as asked
use Rattle.sp_analysis.specs.declared.replies.Command.TheVariants as proofs
use Rattle.sp_replay.specs.Replay.{IsUnread, IsStopped, IsReplay}
use Rattle.sp_rule_forms.specs.Variants.{IsListed}
use Rattle.sp_words.specs.declared.Command.{Command}
use Rattle.sp_words.specs.declared.Command.TheVariants.{Replay, Variants, Wf}
use Rattle.sp_top.specs.Command.{of_proofs, budget_in}
use Rattle.sp_top.specs.Answer.{IsReport, IsLemmaRefusal, IsAskedRefusal, IsTheoryRefusal, IsDoneWith, CommandAnswer, status_of}
use Rattle.sp_top.specs.declared.Status.{Status}
use Rattle.sp_top.specs.declared.Status.TheVariants.{Fine, Rejected, Refused}

pub refusal : (command : Command) (budget : ℕ) (chosen : Option (List ℕ)) {bytes text : List ℕ} {place : ℕ} {status : Status} → IsRefusedAt bytes place → text ≡ codes "refused: text at byte " ++ (decimal place ++ codes "\n") → status ≡ Refused
    → CommandAnswer command budget chosen bytes text status
refusal command budget chosen {place = place} n e f = inl (inl (record { place = place; refused = n; text_is = e; status_is = f }))

reported : (command : asked.Command) (bytes text : List ℕ) (status : Status) → IsReport bytes text status → IsTheoryRefusal (of_proofs command) bytes text status
reported (proofs.Prove budget) bytes text status r = r
reported proofs.Check bytes text status r = r
reported (proofs.Graph budget) bytes text status r = r
reported (proofs.Count budget) bytes text status r = r

pub report : (command : asked.Command) (budget : ℕ) (chosen : Option (List ℕ)) {bytes text : List ℕ} {status : Status} → IsReported bytes text → status ≡ Refused → CommandAnswer (of_proofs command) budget chosen bytes text status
report command budget chosen {bytes} {text} {status} r f = inl (inr (inl (reported command bytes text status (record { report = r; status_is = f }))))

pub replay_report : {bytes text : List ℕ} {status : Status} → IsReported bytes text → status ≡ Refused → CommandAnswer Replay 0 None bytes text status
replay_report r f = inl (inr (inl (record { report = r; status_is = f })))

pub variants_report : {bytes text : List ℕ} {status : Status} → IsReported bytes text → status ≡ Refused → CommandAnswer Variants 0 None bytes text status
variants_report r f = inl (inr (inl (record { report = r; status_is = f })))

done_with : (command : asked.Command) (chosen : Option (List ℕ)) (bytes text : List ℕ) (verdicts : List Verdict) (status : Status) → IsDone command chosen bytes text verdicts → status ≡ status_of verdicts
    → IsDoneWith (of_proofs command) (budget_in command) chosen bytes text status
done_with (proofs.Prove budget) chosen bytes text verdicts status a e = record { outcomes = a.outcomes; analysis = a.analysis; status_is = e ∙ ap status_of a.verdicts_are }
done_with proofs.Check chosen bytes text verdicts status a e = record { judged = a.judged; checking = a.checking; status_is = e ∙ ap status_of a.verdicts_are }
done_with (proofs.Graph budget) chosen bytes text verdicts status a e =
    record { outcomes = a.outcomes; analysed = a.analysed; analysis = a.analysis; text_is = a.written_is; status_is = e ∙ ap status_of a.verdicts_are }
done_with (proofs.Count budget) chosen bytes text verdicts status a e =
    record { outcomes = a.outcomes; analysed = a.analysed; analysis = a.analysis; text_is = a.written_is; status_is = e ∙ ap status_of a.verdicts_are }

pub done : (command : asked.Command) (chosen : Option (List ℕ)) {bytes text : List ℕ} (verdicts : List Verdict) {status : Status} → IsDone command chosen bytes text verdicts → status ≡ status_of verdicts
    → CommandAnswer (of_proofs command) (budget_in command) chosen bytes text status
done command chosen {bytes} {text} verdicts {status} a e = inr (done_with command chosen bytes text verdicts status a e)

lacking : (command : asked.Command) (chosen : Option (List ℕ)) (bytes text : List ℕ) (status : Status) → IsLemmaRefusal chosen bytes text status → IsAskedRefusal (of_proofs command) chosen bytes text status
lacking (proofs.Prove budget) chosen bytes text status r = r
lacking proofs.Check chosen bytes text status r = r
lacking (proofs.Graph budget) chosen bytes text status r = r
lacking (proofs.Count budget) chosen bytes text status r = r

pub lemma_refusal : (command : asked.Command) (chosen : Option (List ℕ)) {bytes text name : List ℕ} {status : Status} → LacksLemma chosen bytes → chosen ≡ Some name
    → text ≡ codes "refused: no lemma " ++ (name ++ codes "\n") → status ≡ Refused → CommandAnswer (of_proofs command) (budget_in command) chosen bytes text status
lemma_refusal command chosen {bytes} {text} {name} {status} l g e f =
    inl (inr (inr (lacking command chosen bytes text status (record { name = name; is_given = g; lacks = l; text_is = e; status_is = f }))))

-- where no lemma is named, none is lacking
pub names_one : (chosen : Option (List ℕ)) {bytes : List ℕ} → LacksLemma chosen bytes → chosen ≡ None → ⊥
names_one None l e = absurd (true≢false l.lacks)
names_one (Some name) l e = absurd cc

pub line_refusal : {bytes text : List ℕ} {number : ℕ} {status : Status} → IsUnread bytes number → text ≡ codes "refused: line " ++ (decimal number ++ codes "\n") → status ≡ Refused
    → CommandAnswer Replay 0 None bytes text status
line_refusal {number = number} u e f = inl (inr (inr (record { number = number; unread = u; text_is = e; status_is = f })))

pub step_refusal : {bytes text : List ℕ} {number : ℕ} {cause : Cause} {status : Status} → IsStopped bytes number cause
    → text ≡ codes "step " ++ (decimal number ++ (codes " refused (" ++ (decimal (suc (rank cause)) ++ codes ")\n"))) → status ≡ Rejected → CommandAnswer Replay 0 None bytes text status
step_refusal {number = number} {cause = cause} s e f = inr (inl (record { number = number; cause = cause; stopped = s; text_is = e; status_is = f }))

pub replay_done : {bytes text : List ℕ} {status : Status} → IsReplay bytes text → status ≡ Fine → CommandAnswer Replay 0 None bytes text status
replay_done r f = inr (inr (record { replay = r; status_is = f }))

pub variants_done : {bytes text : List ℕ} {status : Status} → IsListed bytes text → status ≡ Fine → CommandAnswer Variants 0 None bytes text status
variants_done l f = inr (record { listed = l; status_is = f })

pub review_fine : {bytes text : List ℕ} {fine : Bool} {status : Status} → IsReviewed bytes text fine → fine ≡ true → status ≡ Fine → CommandAnswer Wf 0 None bytes text status
review_fine {bytes} {text} r e f = inr (record { reviewed = subst (IsReviewed bytes text) e r; status_is = f })

pub review_refused : {bytes text : List ℕ} {fine : Bool} {status : Status} → IsReviewed bytes text fine → fine ≡ false → status ≡ Refused → CommandAnswer Wf 0 None bytes text status
review_refused {bytes} {text} r e f = inl (inr (inl (record { reviewed = subst (IsReviewed bytes text) e r; status_is = f })))

pub ruleset answers = (refusal, report, replay_report, variants_report, done, lemma_refusal, line_refusal, step_refusal, replay_done, variants_done, review_fine, review_refused)

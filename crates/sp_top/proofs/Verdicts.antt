-- Each verdict that stands written is so: of a whole answer, and of what stands of one whose writing was cut short.
use Rattle.std.proofs.Common.{◌≡◌, ℕ, List, ◌++◌, codes, Option, Some, sym, ap, subst, ◌∙◌}
use Rattle.std.proofs.lemmas.List.{append_cancel_left}
use Rattle.sp_spec.specs.Written.{theory_of}
use Rattle.sp_spec_text.specs.Declared.{theory_in}
use Rattle.sp_io.specs.Told.{extended}
use Rattle.sp_analysis.specs.Analysis.{summary}
use Rattle.sp_top.specs.Command as command
use Rattle.sp_top.specs.Command.{Request, IsAbout, IsLine}
use Rattle.sp_top.specs.Headline.{LinesAreTrue, Tells, VerdictsAreTrue}
use Rattle.sp_top.specs.Run.{TriedRightly, DoneRightly, HasVerdicts, VerdictsHold, WritesPrefix}
use Rattle.sp_top.specs.declared.Status.{Status}
use Rattle.sp_words.specs.declared.Command.{Command}
use Rattle.sp_words.specs.declared.Command.TheVariants.{Prove, Check, Replay, Variants, Wf, Graph, Gen}
use Rattle.sp_top.proofs.Causes.{line_asks_one, told_about}
use Rattle.sp_top.proofs.Headlines.{tried_true, checked_true}
use Rattle.sp_top.proofs.CutShort.{cut_true}

done_true : (command : Command) (budget : ℕ) (chosen : Option (List ℕ)) (bytes text told : List ℕ) (status : Status) → DoneRightly command budget chosen bytes text status → Tells command text told → LinesAreTrue bytes told
done_true Prove budget chosen bytes text told status r t = tried_true budget chosen bytes text status r told t
done_true Check budget chosen bytes text told status r t = subst (LinesAreTrue bytes) (sym t) (checked_true chosen bytes text status r)
done_true Replay budget chosen bytes text told status r t = absurd t
done_true Variants budget chosen bytes text told status r t = absurd t
done_true Wf budget chosen bytes text told status r t = absurd t
done_true Graph budget chosen bytes text told status r t = absurd t
done_true Gen budget chosen bytes text told status r t = absurd t

module _ (words : List (List ℕ)) (holds : List ℕ → Option (Option (List ℕ))) (before now : ℕ) (old new : Option (List ℕ)) (status : Status) (h : VerdictsHold words holds before now old new status) where
  stands_written : (request : Request) (file bytes front written : List ℕ) → IsLine words request → IsAbout request file → holds file ≡ Some (Some bytes) → old ≡ Some front
      → new ≡ Some (front ++ written) → HasVerdicts status → DoneRightly request.command request.budget request.lemma bytes written status
  stands_written request file bytes front written line about told was is verdicts =
      let w = h.whole verdicts in
      let right = w.1 in
      let one = line_asks_one words right.request request right.line line in
      let telling = ap (λ (r : Request). command.told holds r) one ∙ told_about holds request file about ∙ told in
      let agrees : Some right.bytes ≡ Some bytes = sym (right.text.1 (Some bytes) telling) in
      let same_bytes : right.bytes ≡ bytes = cc in
      let whole : Some (front ++ w.0) ≡ Some (front ++ written) = ap (λ (o : Option (List ℕ)). extended o w.0) (sym was) ∙ sym w.2 ∙ is in
      let same_text : w.0 ≡ written = append_cancel_left front w.0 written cc in
      subst (λ (r : Request). DoneRightly r.command r.budget r.lemma bytes written status) one
      (subst (λ (bs : List ℕ). DoneRightly right.request.command right.request.budget right.request.lemma bs written status) same_bytes
      (subst (λ (t : List ℕ). DoneRightly right.request.command right.request.budget right.request.lemma right.bytes t status) same_text right.right))

  pub verdicts_are_true : WritesPrefix words holds before now old new status → VerdictsAreTrue words holds old new status
  verdicts_are_true p = record {
    verdicts = λ request file bytes front written told line about holding was is v tells.
        done_true request.command request.budget request.lemma bytes written told status (stands_written request file bytes front written line about holding was is v) tells;
    told = λ request file bytes front written proves line about holding was is v.
        let r : TriedRightly request.budget request.lemma bytes written status =
        subst (λ (c : Command). DoneRightly c request.budget request.lemma bytes written status) proves (stands_written request file bytes front written line about holding was is v) in
        (codes "\n/*\n" ++ (summary (theory_of (theory_in r.analysis.theory)) r.outcomes ++ codes "*/\n"), r.behind);
    written = cut_true words holds before now old new status p;
  }

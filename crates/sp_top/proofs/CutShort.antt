-- What stands of an answer whose writing a fault of the sink ended: each whole line of a proof or a refutation is so.
use Rattle.std.proofs.Common.{◌≡◌, ℕ, false, List, ◌++◌, take, drop, codes, Option, Some, inl, inr, refl, sym, ap, subst, ◌∙◌}
use Rattle.std.specs.Prelude.{decimal}
use Rattle.std.proofs.lemmas.List.{append_cancel_left, take-append-drop}
use Rattle.sp_spec_text.specs.Behind.{IsBehindEnd}
use Rattle.sp_spec_text.specs.Names.{IsWord}
use Rattle.sp_spec_text.specs.Ends.{behind_all}
use Rattle.sp_io.specs.Told.{extended}
use Rattle.sp_top.specs.Answer.{TextAnswer, IsLemmaRefusal, IsTheoryRefusal, IsAskedRefusal, IsRefusedWith, IsFileAnswer}
use Rattle.sp_top.specs.Command.{Request, IsAbout, IsLine}
use Rattle.sp_top.specs.Headline.{IsLineAbove, IsWholeLine, LinesAreTrue, WholeLinesAreTrue, Tells, NamesByWord}
use Rattle.sp_top.specs.Run.{DoneRightly, WritesPrefix}
use Rattle.sp_top.specs.declared.Status.{Status}
use Rattle.sp_top.specs.declared.Status.TheVariants.{WriteFault}
use Rattle.sp_words.specs.declared.Command.{Command}
use Rattle.sp_words.specs.declared.Command.TheVariants.{Prove, Check, Replay, Variants, Wf, Graph, Gen}
use Rattle.sp_top.proofs.PlainNames.{IsPlain, plain_in, plain_word, plain_append}
use Rattle.sp_top.proofs.PlainFindings.{plain_number}
use Rattle.sp_top.proofs.Quiet.{IsCalm, calm_first, calm_behind, quiet_plain, no_verdict_line}
use Rattle.sp_top.proofs.PlainReports.{report_calm}
use Rattle.sp_top.proofs.EndStays.{end_stays}
use Rattle.sp_top.proofs.WholeLines.{whole_stays, HasFeed, feed_in}
use Rattle.sp_top.proofs.TextStatus.{done_rightly}
use Rattle.sp_top.proofs.Causes.{told_about, answer_of_line}
use Rattle.sp_top.proofs.Headlines.{tried_true, checked_true}

module _ (bytes : List ℕ) where
  -- no line of a verdict stands in a calm text
  nothing_told : (told : List ℕ) → IsCalm told → WholeLinesAreTrue bytes told
  nothing_told told calm = record {
    proof = λ name n w l. absurd (no_verdict_line told calm l.stands.above name (codes " (all-traces): verified (") n l.next l.below l.stands.lines_are);
    refutation = λ name n w l. absurd (no_verdict_line told calm l.stands.above name (codes " (exists-trace): falsified - no trace found (") n l.next l.below l.stands.lines_are);
    marked_proof = λ name n w l. absurd (no_verdict_line told calm l.stands.above name (codes " (all-traces, over learning logs): verified (") n l.next l.below l.stands.lines_are);
    marked_refutation = λ name n w l.
        absurd (no_verdict_line told calm l.stands.above name (codes " (exists-trace, over learning logs): falsified - no trace found (") n l.next l.below l.stands.lines_are);
  }

  -- a whole line stays one with more behind it
  line_stays : (told more line : List ℕ) (l : IsWholeLine told line) → (below : List (List ℕ)) × IsLineAbove (told ++ more) line below
  line_stays told more line l =
      let s = whole_stays told more l.stands.above line l.next l.below l.stands.lines_are in
      (s.0, record { above = l.stands.above; lines_are = s.1 })

  -- what is so with more behind it, wherever a line feed stands
  so_with_more : (told more : List ℕ) → (HasFeed told → LinesAreTrue bytes (told ++ more)) → WholeLinesAreTrue bytes told
  so_with_more told more h =
      let feed : (line : List ℕ) → IsWholeLine told line → HasFeed told = λ line l. feed_in told l.stands.above line l.next l.below l.stands.lines_are in
      record {
        proof = λ name n w l.
            let line = name ++ (codes " (all-traces): verified (" ++ (decimal n ++ codes " steps)")) in
            let s = line_stays told more line l in
            (h (feed line l)).proof name n s.0 w s.1;
        refutation = λ name n w l.
            let line = name ++ (codes " (exists-trace): falsified - no trace found (" ++ (decimal n ++ codes " steps)")) in
            let s = line_stays told more line l in
            (h (feed line l)).refutation name n s.0 w s.1;
        marked_proof = λ name n w l.
            let line = name ++ (codes " (all-traces, over learning logs): verified (" ++ (decimal n ++ codes " steps)")) in
            let s = line_stays told more line l in
            (h (feed line l)).marked_proof name n s.0 w s.1;
        marked_refutation = λ name n w l.
            let line = name ++ (codes " (exists-trace, over learning logs): falsified - no trace found (" ++ (decimal n ++ codes " steps)")) in
            let s = line_stays told more line l in
            (h (feed line l)).marked_refutation name n s.0 w s.1;
      }

  calm_told : (command : Command) (text told : List ℕ) (k : ℕ) → IsCalm text → Tells command (take k text) told → IsCalm told
  calm_told Prove text told k calm t = subst IsCalm (sym t.behind_is) (calm_behind false (behind_all t.tokens) (take k text) (calm_first false k text calm))
  calm_told Check text told k calm t = subst IsCalm (sym t) (calm_first false k text calm)
  calm_told Replay text told k calm t = absurd t
  calm_told Variants text told k calm t = absurd t
  calm_told Wf text told k calm t = absurd t
  calm_told Graph text told k calm t = absurd t
  calm_told Gen text told k calm t = absurd t

  calm_true : (command : Command) (text told : List ℕ) (k : ℕ) → IsCalm text → Tells command (take k text) told → WholeLinesAreTrue bytes told
  calm_true command text told k calm t = nothing_told told (calm_told command text told k calm t)

  plain_true : (command : Command) (text told : List ℕ) (k : ℕ) → IsPlain text → Tells command (take k text) told → WholeLinesAreTrue bytes told
  plain_true command text told k plain t = calm_true command text told k (quiet_plain text plain).calm t

  done_so : (command : Command) (budget : ℕ) (chosen : Option (List ℕ)) (text told : List ℕ) (full : Status) (k : ℕ) → DoneRightly command budget chosen bytes text full → Tells command (take k text) told → WholeLinesAreTrue bytes told
  done_so Prove budget chosen text told full k r t =
      let more = drop k text in
      so_with_more told more
      (λ f. tried_true budget chosen bytes text full r (told ++ more) (subst (λ (x : List ℕ). IsBehindEnd x (told ++ more)) (take-append-drop k text) (end_stays (take k text) told more f.front f.behind t f.are)))
  done_so Check budget chosen text told full k r t =
      so_with_more told (drop k text) (λ f. subst (LinesAreTrue bytes) (sym (ap (λ (x : List ℕ). x ++ drop k text) t ∙ take-append-drop k text)) (checked_true chosen bytes text full r))
  done_so Replay budget chosen text told full k r t = absurd t
  done_so Variants budget chosen text told full k r t = absurd t
  done_so Wf budget chosen text told full k r t = absurd t
  done_so Graph budget chosen text told full k r t = absurd t
  done_so Gen budget chosen text told full k r t = absurd t

  lemma_so : (command : Command) (chosen : Option (List ℕ)) (text told : List ℕ) (full : Status) (k : ℕ) → ((name : List ℕ) → chosen ≡ Some name → IsWord name)
      → IsLemmaRefusal chosen bytes text full → Tells command (take k text) told → WholeLinesAreTrue bytes told
  lemma_so command chosen text told full k named refusal t =
      plain_true command text told k (subst IsPlain (sym refusal.text_is)
      (plain_append (codes "refused: no lemma ") (refusal.name ++ codes "\n") (plain_in (codes "refused: no lemma ") refl)
      (plain_append refusal.name (codes "\n") (plain_word refusal.name (named refusal.name refusal.is_given)) (plain_in (codes "\n") refl)))) t

  asked_so : (command : Command) (chosen : Option (List ℕ)) (text told : List ℕ) (full : Status) (k : ℕ) → ((name : List ℕ) → chosen ≡ Some name → IsWord name)
      → IsAskedRefusal command chosen bytes text full → Tells command (take k text) told → WholeLinesAreTrue bytes told
  asked_so Prove chosen text told full k named r t = lemma_so Prove chosen text told full k named r t
  asked_so Check chosen text told full k named r t = lemma_so Check chosen text told full k named r t
  asked_so Replay chosen text told full k named r t = absurd t
  asked_so Variants chosen text told full k named r t = absurd r
  asked_so Wf chosen text told full k named r t = absurd r
  asked_so Graph chosen text told full k named r t = absurd t
  asked_so Gen chosen text told full k named r t = absurd t

  theory_so : (command : Command) (text told : List ℕ) (full : Status) (k : ℕ) → IsTheoryRefusal command bytes text full → Tells command (take k text) told → WholeLinesAreTrue bytes told
  theory_so Prove text told full k r t = calm_true Prove text told k (report_calm bytes text r.report) t
  theory_so Check text told full k r t = calm_true Check text told k (report_calm bytes text r.report) t
  theory_so Replay text told full k r t = absurd t
  theory_so Variants text told full k r t = absurd t
  theory_so Wf text told full k r t = absurd t
  theory_so Graph text told full k r t = absurd t
  theory_so Gen text told full k r t = absurd t

  refused_so : (command : Command) (chosen : Option (List ℕ)) (text told : List ℕ) (full : Status) (k : ℕ) → ((name : List ℕ) → chosen ≡ Some name → IsWord name)
      → IsRefusedWith command chosen bytes text full → Tells command (take k text) told → WholeLinesAreTrue bytes told
  refused_so command chosen text told full k named (inl refusal) t =
      plain_true command text told k (subst IsPlain (sym refusal.text_is)
      (plain_append (codes "refused: text at byte ") (decimal refusal.place ++ codes "\n") (plain_in (codes "refused: text at byte ") refl)
      (plain_append (decimal refusal.place) (codes "\n") (plain_number refusal.place) (plain_in (codes "\n") refl)))) t
  refused_so command chosen text told full k named (inr (inl report)) t = theory_so command text told full k report t
  refused_so command chosen text told full k named (inr (inr refusal)) t = asked_so command chosen text told full k named refusal t

  answer_so : (request : Request) (before now : ℕ) (text told : List ℕ) (full : Status) (k : ℕ) → NamesByWord request → IsFileAnswer request (Some (Some bytes)) before now text full → Tells request.command (take k text) told
      → WholeLinesAreTrue bytes told
  answer_so request before now text told full k named (inl fault) t = plain_true request.command text told k (subst IsPlain (sym fault.text_is) (plain_in (codes "refused: read fault\n") refl)) t
  answer_so request before now text told full k named (inr (inl long)) t =
      plain_true request.command text told k (subst IsPlain (sym long.text_is) (plain_in (codes "refused: text longer than 1048576 bytes\n") refl)) t
  answer_so request before now text told full k named (inr (inr known)) t =
      let same : Some bytes ≡ Some known.bytes = known.agrees.1 (Some bytes) refl in
      let one : known.bytes ≡ bytes = cc in
      at (subst (λ (x : List ℕ). TextAnswer request x text full) one known.answer)
    where
      at : TextAnswer request bytes text full → WholeLinesAreTrue bytes told
      at (inl refused) = refused_so request.command request.lemma text told full k named refused t
      at (inr done) = done_so request.command request.budget request.lemma text told full k (done_rightly request.command request.budget request.lemma bytes text full done) t

-- what was written before the sink failed
pub cut_true : (words : List (List ℕ)) (holds : List ℕ → Option (Option (List ℕ))) (before now : ℕ) (old new : Option (List ℕ)) (status : Status) → WritesPrefix words holds before now old new status
    → (request : Request) (file bytes front written told : List ℕ) → IsLine words request → IsAbout request file → holds file ≡ Some (Some bytes) → old ≡ Some front → new ≡ Some (front ++ written)
    → status ≡ WriteFault → NamesByWord request → Tells request.command written told → WholeLinesAreTrue bytes told
cut_true words holds before now old new status p request file bytes front written told line about holding was is short named tells =
    let c = p.prefix short in
    let text = c.0 in
    let k = c.3.0 in
    let answer = answer_of_line words holds before now text request c.1 line c.2 in
    let whole : Some (front ++ take k text) ≡ Some (front ++ written) = ap (λ (o : Option (List ℕ)). extended o (take k text)) (sym was) ∙ sym c.3.2 ∙ is in
    let same : written ≡ take k text = sym (append_cancel_left front (take k text) written cc) in
    answer_so bytes request before now text told c.1 k named (subst (λ (o : Option (Option (List ℕ))). IsFileAnswer request o before now text c.1) (told_about holds request file about ∙ holding) answer) (subst (λ (x : List ℕ). Tells request.command x told) same tells)

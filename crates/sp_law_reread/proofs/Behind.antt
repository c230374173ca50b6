-- Behind the word `end` of a text with trees in the places of some of its proofs stands what is written there.
use Rattle.std.proofs.Common.{◌≡◌, ℕ, List, ◌∷◌, ◌++◌, length, drop, codes, Option, sym, ap, ◌∙◌, length-append, arith}
use Rattle.std.proofs.Math.Seq.{drop-append_seam}
use Rattle.sp_spec.specs.Lists.{Every}
use Rattle.sp_spec_text.specs.Token.{Token}
use Rattle.sp_spec_text.specs.Ends.{behind_all}
use Rattle.sp_spec_text.specs.Spans.{Span}
use Rattle.sp_spec_text.specs.Texts.{IsTextOf, ArePlaces}
use Rattle.sp_spec_text.specs.Written.{WrittenText}
use Rattle.sp_spec_proof.specs.Tree.{Tree}
use Rattle.sp_lex.proofs.One.{tokens_one}
use Rattle.sp_law_reread.specs.Again.{replaced, IsReadableIf}
use Rattle.sp_spec_text.specs.Behind.{IsBehindEnd}
use Rattle.sp_law_reread.proofs.Leads.{Ended, leads_ended}
use Rattle.sp_law_reread.proofs.Items.{written_again}

-- whose last token ends where those bytes begin
ended_behind : (front behind : List ℕ) → Ended (length (front ++ behind)) (front ++ behind) behind → IsBehindEnd (front ++ behind) behind
ended_behind front behind e =
    let place : behind_all e.tokens ≡ length front = let p = e.place 0 in omega (arith, p, length-append front behind) in
    record {
      tokens = e.tokens;
      cut = e.cut;
      ended = e.ended;
      behind_is = sym (ap (λ (n : ℕ). drop n (front ++ behind)) place ∙ drop-append_seam front behind);
    }

pub behind_end : (text : List ℕ) (theory : WrittenText) (spans : List Span) (end : ℕ) (trees : List (Option Tree)) (behind : List ℕ)
    → IsTextOf text theory → ArePlaces text theory spans end → Every IsReadableIf trees → length trees ≡ length spans → IsBehindEnd (replaced text 0 spans trees end ++ (codes "\n" ++ behind)) (codes "\n" ++ behind)
behind_end text theory spans end trees behind h p rs l =
    let a = written_again text theory spans end trees behind h p rs l in
    ended_behind (replaced text 0 spans trees end) (10 ∷ behind) (leads_ended behind a.leads (omega arith))

pub behind_one : (text behind other : List ℕ) → IsBehindEnd text behind → IsBehindEnd text other → behind ≡ other
behind_one text behind other b o = b.behind_is ∙ ap (λ (ts : List Token). drop (behind_all ts) text) (tokens_one b.cut o.cut) ∙ sym o.behind_is

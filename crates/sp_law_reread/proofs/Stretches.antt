-- The end of a text, a lemma with a tree in the place of its proof, and what stands behind a proof.
use Rattle.std.proofs.Common.{◌≡◌, ℕ, ◌+◌, Bool, true, false, true≢false, cond, List, [], ◌∷◌, ◌++◌, length, codes, Option, Some, None, refl, sym, ap, subst, ◌∙◌, append_assoc, append-nil, arith}
use Rattle.std.specs.Prelude.{◌==◌}
use Rattle.std.proofs.lemmas.Bool.{eqb-true}
use Rattle.sp_spec_text.specs.Signs as s
use Rattle.sp_spec_text.specs.Token.{Lexeme, word, sign, Token}
use Rattle.sp_spec_text.specs.Lex.{Skips, token, piece, is_end, IsNext, AreTokens, no_more, last, next, lexemes}
use Rattle.sp_spec_text.specs.Ends.{place_behind, is_any}
use Rattle.sp_spec_proof.specs.Tree.{Tree}
use Rattle.sp_skel.specs.TreeText.{tree_text}
use Rattle.sp_spec_text.specs.Written.{WrittenProof}
use Rattle.sp_spec_text.specs.Spans.{Span, EndsAt, is_feed, goes_on}
use Rattle.sp_read_listings.specs.Heuristics.{the_end}
use Rattle.sp_skel.specs.Spelling.{spelled, IsReadable}
use Rattle.sp_skel.proofs.Blanks.{Lexes, lexes_blank}
use Rattle.sp_skel.proofs.ReadBack.{lexes_tree}
use Rattle.sp_law_reread.specs.Again.{replaced}
use Rattle.sp_law_reread.proofs.Ends.{ends_behind, skips_ends, next_ends}
use Rattle.sp_law_reread.proofs.Local.{BeginsNoGoal, reached}
use Rattle.sp_law_reread.proofs.Reached.{next_piece, Parted, parted}
use Rattle.sp_law_reread.proofs.Stops.{quote_firm, letter_firm, feed_open, end_open, quote_read, lexes_quote, word_read, lexes_end, tokens_feed}
use Rattle.sp_law_reread.proofs.Leads.{arrived, leads_quote}
use Rattle.sp_law_reread.proofs.TreeLeads.{leads_at, leads_blank, leads_tree}
use Rattle.sp_law_reread.proofs.Places.{At, at_drop, between_is, Claim, Again}

-- ---- the end

end_claim : {text behind bytes rest : List ℕ} {trees : List (Option Tree)} {end : ℕ} {P : List Lexeme → Type 0} (t : Token)
    → IsNext (length text) bytes t rest → t.lexeme ≡ word (codes "end") → t.end ≡ end → P the_end → Claim text [] trees end behind bytes P
end_claim {text} {behind} {bytes} {rest} {trees} {end} t n e f h =
    let from : n.from ≡ codes "end" ++ rest = word_read n.from rest (codes "end") (subst (λ (x : Lexeme). piece n.from ≡ token x rest) e (next_piece n (subst BeginsNoGoal (sym e) refl))) in
    let o = skips_ends n.skips in
    let are : bytes ≡ o.0 ++ (codes "end" ++ rest) = o.1 ∙ ap (λ (x : List ℕ). o.0 ++ x) from in
    record {
      stop = 101;
      firm = letter_firm;
      front = o.0;
      old = codes "nd" ++ rest;
      new = codes "nd" ++ 10 ∷ behind;
      still_open = end_open behind;
      bytes_are = are;
      written = λ place all before a d.
          let w = before ++ o.0 in
          let all_is : all ≡ (w ++ codes "end") ++ rest = d ∙ ap (λ (x : List ℕ). before ++ x) are ∙ sym (append_assoc before o.0 (codes "end" ++ rest)) ∙ sym (append_assoc w (codes "end") rest) in
          ap (λ (x : List ℕ). x ++ 10 ∷ behind) (between_is a end (w ++ codes "end") rest all_is (let i = n.end in omega (arith, i, f))) ∙ append_assoc w (codes "end") (10 ∷ behind);
      first = [];
      reaches = reached (subst (λ (x : List ℕ). Skips bytes x) from n.skips);
      others = the_end;
      lexes = λ size. lexes_end behind;
      leads = arrived;
      holds = h;
    }

goes_on_end : (x : Lexeme) → x ≡ word (codes "end") → is_end x ≡ false → ⊥
goes_on_end x e d = true≢false (ap is_end (sym e) ∙ d)

-- where the word `end` alone is left
pub claim_end : {text behind bytes : List ℕ} {trees : List (Option Tree)} {end : ℕ} {ts : List Token} {P : List Lexeme → Type 0} (b : ℕ)
    → AreTokens (length text) bytes ts → lexemes ts ≡ the_end → place_behind is_any b ts ≡ end → P the_end → Claim text [] trees end behind bytes P
claim_end b (no_more s) e f h = absurd (let none : ⊥ = cc in none)
claim_end b (last {t = t} n d) e f h = end_claim t n (let g : t.lexeme ≡ word (codes "end") = cc in g) f h
claim_end b (next {t = t} n d k) e f h = absurd (goes_on_end t.lexeme (let g : t.lexeme ≡ word (codes "end") = cc in g) d)

-- ---- a lemma

pub claim_lemma : {text behind bytes rest : List ℕ} {spans : List Span} {trees : List (Option Tree)} {end : ℕ} {span : Span} {first : List Token} {us : List Token} {P Q : List Lexeme → Type 0} (quote : Token) (t : Tree)
    → IsReadable t → (p : Parted (length text) bytes first us) → IsNext (length text) p.rest quote rest → quote.lexeme ≡ sign s.Quote → span.from ≡ quote.end → Again text spans trees end behind (goes_on text span) P
    → ((ys : List Lexeme) → P ys → Q (lexemes first ++ sign s.Quote ∷ spelled t ys)) → Claim text (span ∷ spans) (Some t ∷ trees) end behind bytes Q
claim_lemma {text} {behind} {bytes} {rest} {spans} {trees} {end} {span} {first} {Q = Q} quote t readable p n e f again step =
    let from : n.from ≡ 34 ∷ rest = quote_read n.from rest (subst (λ (x : Lexeme). piece n.from ≡ token x rest) e (next_piece n (subst BeginsNoGoal (sym e) tt))) in
    let o = skips_ends n.skips in
    let m = p.ends.0 ++ o.0 in
    let are : bytes ≡ m ++ 34 ∷ rest = p.ends.1 ∙ ap (λ (x : List ℕ). p.ends.0 ++ x) (o.1 ∙ ap (λ (x : List ℕ). o.0 ++ x) from) ∙ sym (append_assoc p.ends.0 o.0 (34 ∷ rest)) in
    let z = 10 ∷ behind in
    let later = replaced text (goes_on text span) spans trees end in
    let tree = 10 ∷ (tree_text 0 t ++ later) in
    let quote_end : span.from + length rest ≡ length text = let i = n.end in omega (arith, i, f) in
    record {
      stop = 34;
      firm = quote_firm;
      front = m;
      old = rest;
      new = tree ++ z;
      still_open = feed_open ((tree_text 0 t ++ later) ++ z);
      bytes_are = are;
      written = λ place all before a d.
          let w = before ++ m in
          let all_is : all ≡ (w ++ 34 ∷ []) ++ rest = d ∙ ap (λ (x : List ℕ). before ++ x) are ∙ sym (append_assoc before m (34 ∷ rest)) ∙ sym (append_assoc w (34 ∷ []) rest) in
          ap (λ (x : List ℕ). (x ++ tree) ++ z) (between_is a span.from (w ++ 34 ∷ []) rest all_is quote_end) ∙ append_assoc (w ++ 34 ∷ []) tree z ∙ append_assoc w (34 ∷ []) (tree ++ z);
      first = lexemes first ++ [];
      reaches = p.reaches (34 ∷ rest) [] (reached (subst (λ (x : List ℕ). Skips p.rest x) from n.skips));
      others = sign s.Quote ∷ spelled t again.all;
      lexes = λ size.
          let behind_tree = subst (λ (x : List ℕ). Lexes size x (spelled t again.all)) (sym (append_assoc (tree_text 0 t) later z)) (lexes_tree 0 t (later ++ z) readable (again.lexes size)) in
          lexes_quote (lexes_blank 10 refl behind_tree);
      leads = leads_quote (leads_blank 10 refl (leads_at (append_assoc (tree_text 0 t) later z) (leads_tree 0 t (later ++ z) readable again.leads)));
      holds = subst Q (ap (λ (x : List Lexeme). x ++ sign s.Quote ∷ spelled t again.all) (sym (append-nil (lexemes first)))) (step again.all again.holds);
    }

-- ---- behind a token

pub record After (size : ℕ) (bytes : List ℕ) (t : Token) (ts : List Token) : Type 0 where
  pub rest : List ℕ
  pub comes : IsNext size bytes t rest
  pub cut : AreTokens size rest ts

-- behind one that isn't `end`
pub after_other : {size : ℕ} {bytes : List ℕ} {us : List Token} (t : Token) (ts : List Token) → AreTokens size bytes us → us ≡ t ∷ ts → is_end t.lexeme ≡ false → After size bytes t ts
after_other t ts (no_more s) e d = absurd (let none : ⊥ = cc in none)
after_other t ts (last {t = u} n f) e d = absurd (let g : u ≡ t = cc in true≢false (sym f ∙ ap (λ (v : Token). is_end v.lexeme) g ∙ d))
after_other {size} {bytes} t ts (next {rest = r} {t = u} {ts = vs} n f k) e d =
    let g : u ≡ t = cc in
    let h : vs ≡ ts = cc in
    record { rest = r; comes = subst (λ (v : Token). IsNext size bytes v r) g n; cut = subst (λ (ws : List Token). AreTokens size r ws) h k }

-- or behind which more stand
pub after_more : {size : ℕ} {bytes : List ℕ} {us : List Token} (t u : Token) (ts : List Token) → AreTokens size bytes us → us ≡ t ∷ u ∷ ts → After size bytes t (u ∷ ts)
after_more t u ts (no_more s) e = absurd (let none : ⊥ = cc in none)
after_more t u ts (last n f) e = absurd (let none : ⊥ = cc in none)
after_more {size} {bytes} t u ts (next {rest = r} {t = v} {ts = vs} n f k) e =
    let g : v ≡ t = cc in
    let h : vs ≡ u ∷ ts = cc in
    record { rest = r; comes = subst (λ (w : Token). IsNext size bytes w r) g n; cut = subst (λ (ws : List Token). AreTokens size r ws) h k }

-- ---- behind a proof

-- the text goes on at this place, with these tokens
pub record Onwards (text : List ℕ) (place : ℕ) (ts : List Token) : Type 0 where
  pub bytes : List ℕ
  pub at : At text place bytes
  pub cut : AreTokens (length text) bytes ts

on_at : {text bytes : List ℕ} {place : ℕ} {ts : List Token} → At text place bytes → AreTokens (length text) bytes ts → Onwards text place ts
on_at {bytes = bytes} a k = record { bytes = bytes; at = a; cut = k }

past_feed : (b : ℕ) {text bytes : List ℕ} {place : ℕ} {ts : List Token} → (b == 10) ≡ true → At text place (b ∷ bytes) → AreTokens (length text) (b ∷ bytes) ts → Onwards text (place + 1) ts
past_feed b {bytes = bytes} e a k =
    record {
      bytes = bytes;
      at = record { ends = ends_behind a.ends (b ∷ [], refl); is = let i = a.is in omega arith };
      cut = tokens_feed k (ap (λ (c : ℕ). c ∷ bytes) (eqb-true b 10 e));
    }

by_feed : (t : Bool) {text : List ℕ} (bytes : List ℕ) {place : ℕ} {ts : List Token} → At text place bytes → AreTokens (length text) bytes ts → Onwards text (cond t place (cond (is_feed bytes) (place + 1) place)) ts
by_feed true bytes a k = on_at a k
by_feed false [] a k = on_at a k
by_feed false {text} (b ∷ bytes) {place} {ts} a k = at (b == 10) refl
  where
    at : (t : Bool) → (b == 10) ≡ t → Onwards text (cond t (place + 1) place) ts
    at true e = past_feed b e a k
    at false e = on_at a k

going_on : {text bytes : List ℕ} {ts : List Token} (span : Span) → At text span.to bytes → AreTokens (length text) bytes ts → Onwards text (goes_on text span) ts
going_on {text} {bytes} {ts} span a k =
    subst (λ (x : List ℕ). Onwards text (cond (span.to == span.from) span.to (cond (is_feed x) (span.to + 1) span.to)) ts) (sym (at_drop a)) (by_feed (span.to == span.from) bytes a k)

-- behind the proof, or behind the lemma where it has none
pub onwards : {text bytes : List ℕ} {behind others : List Token} (p : Option WrittenProof) (span : Span) (u : Token) (us : List Token) → others ≡ u ∷ us → EndsAt behind others p span → At text span.from bytes → AreTokens (length text) bytes behind
    → Onwards text (goes_on text span) others
onwards {text} {bytes} None span u us e h a k = going_on span (subst (λ (n : ℕ). At text n bytes) (sym h.1) a) (subst (λ (ts : List Token). AreTokens (length text) bytes ts) (sym h.0) k)
onwards {text} {bytes} {behind} {others} (Some p) span u us e h a k =
    let q = parted h.before h.last (u ∷ us) k (h.are ∙ ap (λ (ts : List Token). h.before ++ h.last ∷ ts) e) in
    let o = after_more h.last u us q.cut refl in
    let at : At text span.to o.rest = record { ends = ends_behind a.ends (ends_behind q.ends (next_ends o.comes)); is = let i = o.comes.end in omega (arith, i, h.place_is) } in
    going_on span at (subst (λ (ts : List Token). AreTokens (length text) o.rest ts) (sym e) o.cut)

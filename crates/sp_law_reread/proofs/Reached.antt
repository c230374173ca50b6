-- Tokens up to a place in a text, and the lexemes that are cut off there.
use Rattle.std.proofs.Common.{◌≡◌, ℕ, ◌-◌, ◌≤◌, false, true≢false, List, [], ◌∷◌, ◌++◌, length, Option, Some, None, refl, sym, ap, subst, ◌∙◌, length-append, arith}
use Rattle.sp_spec_text.specs.Token.{Lexeme, word, constant, sign, solve, wide, block, Token}
use Rattle.sp_spec_text.specs.Lex.{before, past, gap, Skips, no_gap, gap_then, Piece, token, piece, is_end, is_solve, to_closing, closed_by, Reads, as_it_is, bare, goal, IsNext, AreTokens, no_more, last, next, lexemes}
use Rattle.sp_lex.proofs.Gaps.{skips_shorter}
use Rattle.sp_skel.proofs.Blanks.{Lexes}
use Rattle.sp_law_reread.proofs.Ends.{Ends, ends_all, ends_behind, next_ends, reads_ends}
use Rattle.sp_law_reread.proofs.Local.{BeginsNoGoal, Reaches, reached, past_token}

-- ---- what is read of a text is cut off

-- behind one blank or comment
pub tokens_past : {size : ℕ} {bytes mid : List ℕ} {ts : List Token} → gap bytes ≡ past mid → AreTokens size mid ts → AreTokens size bytes ts
tokens_past e (no_more s) = no_more (gap_then e s)
tokens_past e (last n d) = last (record { from = n.from; skips = gap_then e n.skips; reads = n.reads; start = n.start; end = n.end }) d
tokens_past e (next n d k) = next (record { from = n.from; skips = gap_then e n.skips; reads = n.reads; start = n.start; end = n.end }) d k

tokens_skipped : {size : ℕ} {bytes mid : List ℕ} {ts : List Token} → Skips bytes mid → AreTokens size mid ts → AreTokens size bytes ts
tokens_skipped (no_gap e) h = h
tokens_skipped (gap_then e s) h = tokens_past e (tokens_skipped s h)

pub lexes_skipped : {size : ℕ} {bytes mid : List ℕ} {xs : List Lexeme} → Skips bytes mid → Lexes size mid xs → Lexes size bytes xs
lexes_skipped s l = record {
  cut = λ le.
      let shorter = skips_shorter s in
      let c = l.cut (omega arith) in
      record { tokens = c.tokens; cut = tokens_skipped s c.cut; are = c.are };
}

pub shorter_end : {bytes rest : List ℕ} → Ends bytes rest → length rest ≤ length bytes
shorter_end {rest = rest} e = omega (arith, ap length e.1, length-append e.0 rest)

pub begins_no_solve : (x : Lexeme) → BeginsNoGoal x → is_solve x ≡ false
begins_no_solve (word w) p = p
begins_no_solve (constant c) p = refl
begins_no_solve (sign x) p = refl
begins_no_solve (solve t) p = absurd p
begins_no_solve (wide x) p = refl
begins_no_solve block p = refl

pub lexes_read : {size : ℕ} {bytes from rest : List ℕ} {xs : List Lexeme} (x : Lexeme) → Skips bytes from → Reads from (token x rest) → is_end x ≡ false → Lexes size rest xs → Lexes size bytes (x ∷ xs)
lexes_read {size} {from = from} {rest = rest} {xs = xs} x s p e l = record {
  cut = λ le.
      let a = skips_shorter s in
      let b = shorter_end (reads_ends p refl) in
      let c = l.cut (omega arith) in
      let t : Token = record { lexeme = x; start = size - length from; end = size - length rest } in
      record {
        tokens = t ∷ c.tokens;
        cut = next (record { from = from; skips = s; reads = p; start = omega arith; end = omega arith }) e c.cut;
        are = ap (λ (ys : List Lexeme). x ∷ ys) c.are;
      };
}

pub lexes_reached : {size : ℕ} {to bytes : List ℕ} {xs ys : List Lexeme} → Reaches to bytes xs → Lexes size to ys → Lexes size bytes (xs ++ ys)
lexes_reached (reached s) l = lexes_skipped s l
lexes_reached (past_token {x = x} s p e h) l = lexes_read x s p e (lexes_reached h l)

-- ---- the tokens of a text

closed_begins_one : (bytes : List ℕ) (o : Option (List ℕ)) {x : Lexeme} {rest : List ℕ} → closed_by bytes o ≡ token x rest → BeginsNoGoal x → ⊥
closed_begins_one bytes None e p = let none : ⊥ = cc in none
closed_begins_one bytes (Some r) {x} e p = let f : solve (before bytes r) ≡ x = cc in subst BeginsNoGoal (sym f) p

reads_no_goal : {from rest : List ℕ} {p : Piece} {x : Lexeme} → Reads from p → p ≡ token x rest → BeginsNoGoal x → piece from ≡ token x rest
reads_no_goal (as_it_is e d) f q = e ∙ f
reads_no_goal {x = y} (bare {x = x} e t n) f q = let g : x ≡ y = cc in absurd (true≢false (sym t ∙ ap is_solve g ∙ begins_no_solve y q))
reads_no_goal (goal {inside = i} e t h k) f q = absurd (closed_begins_one i (to_closing false 0 i) (k ∙ f) q)

pub next_piece : {size : ℕ} {bytes rest : List ℕ} {t : Token} (n : IsNext size bytes t rest) → BeginsNoGoal t.lexeme → piece n.from ≡ token t.lexeme rest
next_piece n q = reads_no_goal n.reads refl q

-- the tokens behind the first of them, of which none is `end`
pub record Parted (size : ℕ) (bytes : List ℕ) (first others : List Token) : Type 0 where
  pub rest : List ℕ
  pub ends : Ends bytes rest
  pub cut : AreTokens size rest others
  pub reaches : (to : List ℕ) (xs : List Lexeme) → Reaches to rest xs → Reaches to bytes (lexemes first ++ xs)

pub parted : {size : ℕ} {bytes : List ℕ} {ts : List Token} (first : List Token) (u : Token) (us : List Token) → AreTokens size bytes ts → ts ≡ first ++ u ∷ us → Parted size bytes first (u ∷ us)
parted {size} {bytes} [] u us h e = record { rest = bytes; ends = ends_all bytes; cut = subst (λ (ts : List Token). AreTokens size bytes ts) e h; reaches = λ to xs r. r }
parted (t ∷ []) u us (no_more s) e = absurd (let none : ⊥ = cc in none)
parted (t ∷ v ∷ first) u us (no_more s) e = absurd (let none : ⊥ = cc in none)
parted (t ∷ []) u us (last n d) e = absurd (let none : ⊥ = cc in none)
parted (t ∷ v ∷ first) u us (last n d) e = absurd (let none : ⊥ = cc in none)
parted {size} {bytes} (t ∷ first) u us (next {rest = r} {t = v} {ts = ts} n d k) e =
    let f : v ≡ t = cc in
    let g : ts ≡ first ++ u ∷ us = cc in
    let p = parted first u us k g in
    record {
      rest = p.rest;
      ends = ends_behind (next_ends n) p.ends;
      cut = p.cut;
      reaches = λ to xs h.
          let one : Reaches to bytes (v.lexeme ∷ (lexemes first ++ xs)) = past_token n.skips n.reads d (p.reaches to xs h) in
          subst (λ (w : Token). Reaches to bytes (w.lexeme ∷ (lexemes first ++ xs))) f one;
    }

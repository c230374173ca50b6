-- What stands behind tokens of which none is the word `end`, and where that word ends when it comes next.
use Rattle.std.proofs.Common.{◌≡◌, ℕ, ◌+◌, ◌-◌, ◌≤◌, false, List, [], ◌∷◌, ◌++◌, length, codes, refl, arith}
use Rattle.sp_spec_text.specs.Token.{Lexeme, word, Token}
use Rattle.sp_spec_text.specs.Lex.{past, gap, Skips, no_gap, gap_then, token, is_end, Reads, as_it_is, AreTokens, last, next}
use Rattle.sp_spec_text.specs.Ends.{place_behind, is_any}
use Rattle.sp_spec_text.specs.Behind.{EndsInEnd}
use Rattle.sp_law_reread.proofs.Ends.{gap_behind, behind_ends, skips_ends, reads_ends}
use Rattle.sp_law_reread.proofs.Local.{Reaches, reached, past_token}
use Rattle.sp_law_reread.proofs.Reached.{shorter_end, tokens_past}
use Rattle.sp_law_reread.proofs.Stops.{letter_begins, quote_begins, quote_piece, end_piece}

-- the bytes are cut into tokens, none of them `end`, with blanks and comments between, and then these bytes follow
pub data Leads (to : List ℕ) : List ℕ → Type 0 where
  arrived : Leads to to
  past_gap : {bytes mid : List ℕ} → gap bytes ≡ past mid → Leads to mid → Leads to bytes
  past_one : {bytes from rest : List ℕ} {x : Lexeme} → Skips bytes from → Reads from (token x rest) → is_end x ≡ false → Leads to rest → Leads to bytes

leads_skipped : {to bytes from : List ℕ} → Skips bytes from → Leads to from → Leads to bytes
leads_skipped (no_gap e) l = l
leads_skipped (gap_then e s) l = past_gap e (leads_skipped s l)

pub leads_reached : {to mid bytes : List ℕ} {xs : List Lexeme} → Reaches mid bytes xs → Leads to mid → Leads to bytes
leads_reached (reached s) l = leads_skipped s l
leads_reached (past_token s p e h) l = past_one s p e (leads_reached h l)

pub leads_quote : {to rest : List ℕ} → Leads to rest → Leads to (34 ∷ rest)
leads_quote {rest = rest} l = past_one (no_gap (quote_begins rest)) (as_it_is (quote_piece rest) refl) refl l

-- ---- where the word `end` ends

-- the tokens of the last bytes of a text of this size, up to the word `end`, behind which those bytes stand
pub record Ended (size : ℕ) (bytes behind : List ℕ) : Type 0 where
  pub tokens : List Token
  pub cut : AreTokens size bytes tokens
  pub ended : EndsInEnd tokens
  pub place : (b : ℕ) → place_behind is_any b tokens + length behind ≡ size

pub ends_later : (t : Token) (ts : List Token) → EndsInEnd ts → EndsInEnd (t ∷ ts)
ends_later t [] h = absurd h
ends_later t (u ∷ ts) h = h

-- the word and a line feed, whatever follows
end_ends : {size : ℕ} (rest : List ℕ) → length (codes "end" ++ 10 ∷ rest) ≤ size → Ended size (codes "end" ++ 10 ∷ rest) (10 ∷ rest)
end_ends {size} rest le =
    let bytes = codes "end" ++ 10 ∷ rest in
    let t : Token = record { lexeme = word (codes "end"); start = size - length bytes; end = size - length (10 ∷ rest) } in
    record {
      tokens = t ∷ [];
      cut = last (record { from = bytes; skips = no_gap (letter_begins (codes "nd" ++ 10 ∷ rest)); reads = as_it_is (end_piece rest) refl; start = omega arith; end = omega arith }) refl;
      ended = refl;
      place = λ b. omega arith;
    }

pub leads_ended : {size : ℕ} (rest : List ℕ) {bytes : List ℕ} → Leads (codes "end" ++ 10 ∷ rest) bytes → length bytes ≤ size → Ended size bytes (10 ∷ rest)
leads_ended rest arrived le = end_ends rest le
leads_ended rest (past_gap {bytes = bytes} {mid = mid} e l) le =
    let a = shorter_end (behind_ends (gap_behind bytes mid e)) in
    let c = leads_ended rest l (omega arith) in
    record { tokens = c.tokens; cut = tokens_past e c.cut; ended = c.ended; place = c.place }
leads_ended {size} rest (past_one {from = from} {rest = mid} {x = x} s r e l) le =
    let a = shorter_end (skips_ends s) in
    let b = shorter_end (reads_ends r refl) in
    let c : Ended size mid (10 ∷ rest) = leads_ended rest l (omega arith) in
    let t : Token = record { lexeme = x; start = size - length from; end = size - length mid } in
    record {
      tokens = t ∷ c.tokens;
      cut = next (record { from = from; skips = s; reads = r; start = omega arith; end = omega arith }) e c.cut;
      ended = ends_later t c.tokens c.ended;
      place = λ k. c.place t.end;
    }

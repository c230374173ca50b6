-- What is cut off, token by token.
use Rattle.std.proofs.Common.{◌≡◌, ℕ, ◌-◌, ◌<◌, ◌≤◌, true, false, List, [], ◌∷◌, ◌++◌, length, subst, append-nil, append_assoc, arith}
use Rattle.sp_spec_text.specs.Bytes.{FaultKind}
use Rattle.sp_spec_text.specs.Bytes.{OpenComment}
use Rattle.sp_spec_text.specs.Token.{Token}
use Rattle.sp_spec_text.specs.Lex.{token, no_token, is_end, Skips, IsUnclosed, Reads, IsNext, AreTokens, no_more, last, next, AreTokensBefore, left_open, here, later}

-- these tokens stand before the rest, and none of them is `end`
pub record Cut (text : List ℕ) (found : List Token) (rest : List ℕ) : Type 0 where
  pub goes : (ts : List Token) → AreTokens (length text) rest ts → AreTokens (length text) text (found ++ ts)
  pub faults : (ts : List Token) (place : ℕ) (kind : FaultKind) → AreTokensBefore (length text) rest ts place kind → AreTokensBefore (length text) text (found ++ ts) place kind
  pub shorter : length rest ≤ length text

pub cut_none : (text : List ℕ) → Cut text [] text
cut_none text = record { goes = λ ts h. h; faults = λ ts p k h. h; shorter = omega arith }

is_next : {size : ℕ} {rest mid after : List ℕ} {t : Token} → Skips rest mid → length mid ≤ size → Reads mid (token t.lexeme after) → length after < length mid
    → t.start ≡ size - length mid → t.end ≡ size - length after → IsNext size rest t after
is_next {mid = mid} s le e lt a b = record { from = mid; skips = s; reads = e; start = omega arith; end = omega arith }

pub cut_more : {text rest mid after : List ℕ} {found : List Token} {t : Token} → Cut text found rest → Skips rest mid → length mid ≤ length rest → Reads mid (token t.lexeme after) → length after < length mid
    → t.start ≡ length text - length mid → t.end ≡ length text - length after → is_end t.lexeme ≡ false → Cut text (found ++ t ∷ []) after
cut_more {t = t} c s le e lt a b going =
    let k = c.shorter in
    let n = is_next s (omega arith) e lt a b in
    record {
      goes = λ ts h. rw append_assoc (c.goes (t ∷ ts) (next n going h));
      faults = λ ts p k h. rw append_assoc (c.faults (t ∷ ts) p k (later n going h));
      shorter = omega arith;
    }

pub cut_last : {text rest mid after : List ℕ} {found : List Token} {t : Token} → Cut text found rest → Skips rest mid → length mid ≤ length rest → Reads mid (token t.lexeme after) → length after < length mid
    → t.start ≡ length text - length mid → t.end ≡ length text - length after → is_end t.lexeme ≡ true → AreTokens (length text) text (found ++ t ∷ [])
cut_last {t = t} c s le e lt a b ends = let k = c.shorter in c.goes (t ∷ []) (last (is_next s (omega arith) e lt a b) ends)

pub cut_end : {text rest mid : List ℕ} {found : List Token} → Cut text found rest → Skips rest mid → mid ≡ [] → AreTokens (length text) text found
cut_end {text} {rest} {found = found} c s e =
    let h : AreTokens (length text) text (found ++ []) = c.goes [] (no_more (subst (λ (m : List ℕ). Skips rest m) e s)) in
    rw append-nil at h

pub cut_open : {text rest comment : List ℕ} {found : List Token} → Cut text found rest → IsUnclosed rest comment → length comment ≤ length rest → AreTokensBefore (length text) text found (length text - length comment) OpenComment
cut_open {text} {comment = comment} {found = found} c u le =
    let k = c.shorter in
    let h : AreTokensBefore (length text) text (found ++ []) (length text - length comment) OpenComment = c.faults [] (length text - length comment) OpenComment (left_open u (omega arith)) in
    rw append-nil at h

pub cut_bad : {text rest mid : List ℕ} {found : List Token} {kind : FaultKind} → Cut text found rest → Skips rest mid → length mid ≤ length rest → 0 < length mid → Reads mid (no_token kind) → AreTokensBefore (length text) text found (length text - length mid) kind
cut_bad {text} {mid = mid} {found = found} {kind = kind} c s le lt e =
    let k = c.shorter in
    let h : AreTokensBefore (length text) text (found ++ []) (length text - length mid) kind = c.faults [] (length text - length mid) kind (here s lt e (omega arith)) in
    rw append-nil at h

pub ruleset runs = (cut_none, cut_more, cut_last, cut_end, cut_open, cut_bad)

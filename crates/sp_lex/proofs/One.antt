-- A text has one list of tokens, or one first fault, and not both.
use Rattle.std.proofs.Common.{◌≡◌, ℕ, ◌+◌, true, false, List, [], ◌∷◌, length, refl, sym, ap, subst, ◌∙◌, arith}
use Rattle.sp_spec_text.specs.Bytes.{FaultKind}
use Rattle.sp_spec_text.specs.Bytes.{NoToken}
use Rattle.sp_spec_text.specs.Token.{Lexeme, Token}
use Rattle.sp_spec_text.specs.Lex.{Piece, piece, token, no_token, first_sign, is_end, Skips, IsUnclosed, Reads, as_it_is, bare, goal, IsNext, AreTokens, no_more, last, next, AreTokensBefore, left_open, here, later, IsFault}
use Rattle.sp_lex.proofs.Gaps.{skips_one, skips_closed, unclosed_one}
use Rattle.sp_lex.proofs.Solve.{reads_one}

abbrev made : Lexeme → ℕ → ℕ → Token
made x a b = record { lexeme = x; start = a; end = b }

same_token : (t u : Token) → t.lexeme ≡ u.lexeme → t.start ≡ u.start → t.end ≡ u.end → t ≡ u
same_token t u a b d = let g : made t.lexeme t.start t.end ≡ made u.lexeme u.start u.end = rw (a, b, d) refl in g

-- behind the same blanks and comments the same begins
same_reads : {bytes m n : List ℕ} {p q : Piece} → Skips bytes m → Skips bytes n → Reads m p → Reads n q → p ≡ q
same_reads {p = p} s r h k = reads_one (subst (λ (l : List ℕ). Reads l p) (skips_one s r) h) k

-- one token comes next, and the same bytes follow it
pub next_one : {size : ℕ} {bytes x y : List ℕ} {t u : Token} → IsNext size bytes t x → IsNext size bytes u y → (t ≡ u) × (x ≡ y)
next_one {x = x} {y = y} {t = t} {u = u} n m =
    let p : token t.lexeme x ≡ token u.lexeme y = same_reads n.skips m.skips n.reads m.reads in
    let q : x ≡ y = cc in
    let f = skips_one n.skips m.skips in
    (same_token t u (cc) (omega (arith, n.start, m.start, ap length f)) (omega (arith, n.end, m.end, ap length q)), q)

piece_nil : piece [] ≡ no_token NoToken
unfolding piece first_sign
piece_nil = refl

nothing_reads : {p : Piece} {x : Lexeme} {rest : List ℕ} → Reads [] p → p ≡ token x rest → ⊥
nothing_reads (as_it_is e d) f = let g = sym piece_nil ∙ e ∙ f in cc
nothing_reads (bare e t n) f = let g = sym piece_nil ∙ e in cc
nothing_reads (goal e t h k) f = let g = sym piece_nil ∙ e in cc

-- where a token comes next the text has not ended
next_some : {size : ℕ} {bytes x : List ℕ} {t : Token} → IsNext size bytes t x → Skips bytes [] → ⊥
next_some {x = x} {t = t} n s = nothing_reads (subst (λ (l : List ℕ). Reads l (token t.lexeme x)) (skips_one n.skips s) n.reads) refl

both_ends : {t u : Token} → t ≡ u → is_end t.lexeme ≡ true → is_end u.lexeme ≡ false → ⊥
both_ends {t} {u} e a b = let p : is_end t.lexeme ≡ is_end u.lexeme = ap (λ (x : Token). is_end x.lexeme) e in cc

next_good : {size : ℕ} {bytes x from : List ℕ} {t : Token} {kind : FaultKind} → IsNext size bytes t x → Skips bytes from → Reads from (no_token kind) → ⊥
next_good {x = x} {t = t} {kind = kind} n s h = let p : token t.lexeme x ≡ no_token kind = same_reads n.skips s n.reads h in cc

next_closed : {size : ℕ} {bytes x rest : List ℕ} {t : Token} → IsNext size bytes t x → IsUnclosed bytes rest → ⊥
next_closed n u = skips_closed n.skips u

pub tokens_one : {size : ℕ} {bytes : List ℕ} {ts us : List Token} → AreTokens size bytes ts → AreTokens size bytes us → ts ≡ us
tokens_one (no_more e) (no_more f) = refl
tokens_one (no_more e) (last n f) = absurd (next_some n e)
tokens_one (no_more e) (next n f h) = absurd (next_some n e)
tokens_one (last n f) (no_more e) = absurd (next_some n e)
tokens_one (last n f) (last m g) = let o = next_one n m in ap (λ (t : Token). t ∷ []) o.0
tokens_one (last n f) (next m g k) = absurd (both_ends (next_one n m).0 f g)
tokens_one (next n f h) (no_more e) = absurd (next_some n e)
tokens_one (next n f h) (last m g) = absurd (both_ends (sym (next_one n m).0) g f)
tokens_one {size} (next {t = t} {ts = ts} n f h) (next {t = u} {ts = us} m g k) =
    let o = next_one n m in
    let i = tokens_one h (subst (λ (l : List ℕ). AreTokens size l us) (sym o.1) k) in
    let e = o.0 in cc

same_fault : {size p q : ℕ} {bytes m n : List ℕ} {k o : FaultKind} → Skips bytes m → Skips bytes n → Reads m (no_token k) → Reads n (no_token o) → p + length m ≡ size → q + length n ≡ size → (p ≡ q) × (k ≡ o)
same_fault {k = k} {o = o} s r h i a b =
    let e : no_token k ≡ no_token o = same_reads s r h i in
    (omega (arith, a, b, ap length (skips_one s r)), cc)

pub before_one : {size : ℕ} {bytes : List ℕ} {ts us : List Token} {p q : ℕ} {k o : FaultKind} → AreTokensBefore size bytes ts p k → AreTokensBefore size bytes us q o → (ts ≡ us) × (p ≡ q) × (k ≡ o)
before_one (left_open u a) (left_open v b) = (refl, omega (arith, a, b, ap length (unclosed_one u v)), refl)
before_one (left_open u a) (here s lt e b) = absurd (skips_closed s u)
before_one (left_open u a) (later n f h) = absurd (next_closed n u)
before_one (here s lt e a) (left_open u b) = absurd (skips_closed s u)
before_one (here s lt e a) (here r gt f b) = let o = same_fault s r e f a b in (refl, o.0, o.1)
before_one (here s lt e a) (later n f h) = absurd (next_good n s e)
before_one (later n f h) (left_open u b) = absurd (next_closed n u)
before_one (later n f h) (here s lt e a) = absurd (next_good n s e)
before_one {size} {q = q} {o = o} (later {t = t} {ts = ts} n f h) (later {t = u} {ts = us} m g k) =
    let d = next_one n m in
    let i = before_one h (subst (λ (l : List ℕ). AreTokensBefore size l us q o) (sym d.1) k) in
    let e : t ≡ u = d.0 in
    let j : ts ≡ us = i.0 in
    let g : t ∷ ts ≡ u ∷ us = rw (e, j) refl in
    (g, i.1, i.2)

pub fault_one : {size : ℕ} {bytes : List ℕ} {p q : ℕ} {k o : FaultKind} → IsFault size bytes p k → IsFault size bytes q o → (p ≡ q) × (k ≡ o)
fault_one f g = let o = before_one f.before g.before in (o.1, o.2)

none_before : {size : ℕ} {bytes : List ℕ} {ts us : List Token} {p : ℕ} {k : FaultKind} → AreTokens size bytes ts → AreTokensBefore size bytes us p k → ⊥
none_before (no_more e) (left_open u a) = skips_closed e u
none_before (no_more e) (here s lt f a) = omega (arith, lt, ap length (skips_one s e))
none_before (no_more e) (later n f h) = next_some n e
none_before (last n f) (left_open u a) = next_closed n u
none_before (last n f) (here s lt e a) = next_good n s e
none_before (last n f) (later m g k) = both_ends (next_one n m).0 f g
none_before (next n f h) (left_open u a) = next_closed n u
none_before (next n f h) (here s lt e a) = next_good n s e
none_before {size} {us = us} {p = p} {k = o} (next n f h) (later {ts = vs} m g k) = none_before h (subst (λ (l : List ℕ). AreTokensBefore size l vs p o) (sym (next_one n m).1) k)

pub not_both : {size : ℕ} {bytes : List ℕ} {ts : List Token} {p : ℕ} {k : FaultKind} → AreTokens size bytes ts → IsFault size bytes p k → ⊥
not_both h f = none_before h f.before

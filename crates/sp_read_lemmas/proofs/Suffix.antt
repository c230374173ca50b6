-- Tokens that end with others, and where those begin.
use Rattle.std.proofs.Common.{◌≡◌, ℕ, zero, suc, ◌-◌, ◌<◌, ◌≤◌, List, [], ◌∷◌, ◌++◌, length, length-drop, drop, map, refl, sym, ap, subst, ◌∙◌, arith}
use Rattle.std.proofs.lemmas.List.{nil_from_length, length-map, length-append}
use Rattle.sp_lex.specs.declared.token.Token as lexer
use Rattle.sp_lex.specs.Views.{token_of, tokens_of}
use Rattle.sp_spec_text.specs.Token.{Lexeme, Token}
use Rattle.sp_spec_text.specs.Lex.{lexemes}
use Rattle.sp_spec_text.specs.Spans.{IsBehind, EndsWith}
use Rattle.sp_read_lemmas.specs.Views.{seen_from}

-- ---- ends of one list

lexemes_length : (ts : List Token) → length (lexemes ts) ≡ length ts
lexemes_length ts = length-map ts (λ (t : Token). t.lexeme)

same_length : (us vs : List Token) → lexemes us ≡ lexemes vs → length us ≡ length vs
same_length us vs e = omega (arith, lexemes_length us, lexemes_length vs, ap length e)

-- ends of one length are one
pub same_end : (before after : List Token) {us vs : List Token} → before ++ us ≡ after ++ vs → length us ≡ length vs → us ≡ vs
same_end [] [] e f = e
same_end [] (t ∷ after) {us} {vs} e f = let g : length us ≡ length (t ∷ after ++ vs) = ap length e in absurd (omega (arith, g, f, length-append after vs))
same_end (t ∷ before) [] {us} {vs} e f = let g : length (t ∷ before ++ us) ≡ length vs = ap length e in absurd (omega (arith, g, f, length-append before us))
same_end (t ∷ before) (u ∷ after) {us} {vs} e f = let g : before ++ us ≡ after ++ vs = cc in same_end before after g f

pub end_one : {tokens us vs : List Token} → EndsWith tokens us → EndsWith tokens vs → lexemes us ≡ lexemes vs → us ≡ vs
end_one {us = us} {vs = vs} h k e = same_end h.0 k.0 (sym h.1 ∙ k.1) (same_length us vs e)

pub behind_one : {tokens us vs : List Token} {p q : ℕ} → IsBehind tokens us p → IsBehind tokens vs q → lexemes us ≡ lexemes vs → (p ≡ q) × (us ≡ vs)
behind_one {tokens} {us} {vs} {p} {q} h k e =
    let l : length (h.last ∷ us) ≡ length (k.last ∷ vs) = ap suc (same_length us vs e) in
    let f : h.last ∷ us ≡ k.last ∷ vs = same_end h.before k.before (sym h.are ∙ k.are) l in
    let g : h.last ≡ k.last = cc in
    let d : us ≡ vs = cc in
    (h.place_is ∙ ap (λ (t : Token). t.end) g ∙ sym k.place_is, d)

-- ---- in the code's tokens

pub ends_with : (xs : List lexer.Token) (i j : ℕ) → i ≤ j → EndsWith (tokens_of (drop i xs)) (tokens_of (drop j xs))
ends_with xs zero zero le = ([], refl)
ends_with [] zero (suc j) le = ([], refl)
ends_with (x ∷ xs) zero (suc j) le = let e = ends_with xs zero j (omega arith) in (token_of x ∷ e.0, ap (λ (ts : List Token). token_of x ∷ ts) e.1)
ends_with [] (suc i) (suc j) le = ([], refl)
ends_with (x ∷ xs) (suc i) (suc j) le = ends_with xs i j (omega arith)
ends_with xs (suc i) zero le = absurd (omega arith)

at_place : (xs : List lexer.Token) (i : ℕ) → i < length xs → (t : lexer.Token) × (drop i xs ≡ t ∷ drop (suc i) xs)
at_place [] i lt = absurd (omega arith)
at_place (x ∷ xs) zero lt = (x, refl)
at_place (x ∷ xs) (suc i) lt = at_place xs i (omega arith)

abbrev places : List lexer.Token → List ℕ
places xs = map (λ (t : lexer.Token). t.end) xs

-- the place that is found is that behind the token before
pub is_behind : (xs : List lexer.Token) (i j place : ℕ) → i < j → j ≤ length xs → places (drop (j - 1) xs) ≡ place ∷ places (drop j xs) → IsBehind (tokens_of (drop i xs)) (tokens_of (drop j xs)) place
is_behind xs i j place lt le e =
    let f : suc (j - 1) ≡ j = omega arith in
    let p = at_place xs (j - 1) (omega arith) in
    let q : drop (j - 1) xs ≡ p.0 ∷ drop j xs = subst (λ k. drop (j - 1) xs ≡ p.0 ∷ drop k xs) f p.1 in
    let w = ends_with xs i (j - 1) (omega arith) in
    let g : p.0.end ∷ places (drop j xs) ≡ place ∷ places (drop j xs) = sym (ap places q) ∙ e in
    record {
      before = w.0;
      last = token_of p.0;
      are = w.1 ∙ ap (λ (ts : List lexer.Token). w.0 ++ tokens_of ts) q;
      place_is = cc;
    }

seen_length : (xs : List lexer.Token) (i : ℕ) → length (seen_from xs i) ≡ length xs - i
seen_length xs i = lexemes_length (tokens_of (drop i xs)) ∙ length-map (drop i xs) token_of ∙ length-drop i xs

pub left_over : (xs : List lexer.Token) (i : ℕ) → i < length xs → seen_from xs i ≡ [] → ⊥
left_over xs i lt e = omega (arith, seen_length xs i, ap length e)

pub nothing_left : (xs : List lexer.Token) (i : ℕ) → length xs ≤ i → seen_from xs i ≡ []
nothing_left xs i le = nil_from_length (seen_from xs i) (omega (arith, seen_length xs i))

-- behind three tokens stands the place that is three further
pub three_further : (xs : List lexer.Token) (i : ℕ) {a b c : Lexeme} → i ≤ length xs → seen_from xs 0 ≡ a ∷ b ∷ c ∷ seen_from xs i → i ≡ 3
three_further xs i le e = omega (arith, seen_length xs 0, seen_length xs i, ap length e)

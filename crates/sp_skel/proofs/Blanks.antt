-- Texts of words with blanks between them are cut into those words.
use Rattle.std.proofs.Common.{◌≡◌, ℕ, ◌-◌, ◌≤◌, Bool, true, false, true≢false, cond, List, [], ◌∷◌, ◌++◌, length, codes, refl, sym, ap, ◌∙◌, length-append, arith}
use Rattle.std.specs.Prelude.{◌==◌}
use Rattle.std.specs.Char.{is_ascii_alphanumeric}
use Rattle.std.proofs.lemmas.Bool.{ne_eqb}
use Rattle.sp_spec_text.specs.Bytes as class
use Rattle.sp_spec_text.specs.Token.{Lexeme, word, solve, Token}
use Rattle.sp_spec_text.specs.Lex.{is_blank, is_in, is_first, is_digit, skip, nothing, past, gap, no_gap, gap_then, token, piece, is_end, is_solve, Reads, as_it_is, goal, closed_by, solve_piece, IsNext, AreTokens, no_more, last, next, lexemes}
use Rattle.sp_spec_text.specs.Names.{IsWord}
use Rattle.sp_spec_text.proofs.Rests.{before_rest}
use Rattle.sp_skel.proofs.Goals.{Closes}

-- tokens that read as these lexemes
pub record Cut (size : ℕ) (bytes : List ℕ) (xs : List Lexeme) : Type 0 where
  pub tokens : List Token
  pub cut : AreTokens size bytes tokens
  pub are : lexemes tokens ≡ xs

-- where the bytes are the last of a text of this size
pub record Lexes (size : ℕ) (bytes : List ℕ) (xs : List Lexeme) : Type 0 where
  pub cut : length bytes ≤ size → Cut size bytes xs

-- ---- blanks

pub gap_blank : (b : ℕ) (bytes : List ℕ) → is_blank b ≡ true → gap (b ∷ bytes) ≡ past bytes
unfolding gap
gap_blank b bytes h = rw h refl

next_behind : {size b : ℕ} {bytes rest : List ℕ} {t : Token} → is_blank b ≡ true → IsNext size bytes t rest → IsNext size (b ∷ bytes) t rest
next_behind {b = b} {bytes = bytes} h n = record { from = n.from; skips = gap_then (gap_blank b bytes h) n.skips; reads = n.reads; start = n.start; end = n.end }

tokens_behind : {size b : ℕ} {bytes : List ℕ} {ts : List Token} → is_blank b ≡ true → AreTokens size bytes ts → AreTokens size (b ∷ bytes) ts
tokens_behind {b = b} {bytes = bytes} h (no_more s) = no_more (gap_then (gap_blank b bytes h) s)
tokens_behind h (last n e) = last (next_behind h n) e
tokens_behind h (next n e k) = next (next_behind h n) e k

pub lexes_blank : {size : ℕ} {bytes : List ℕ} {xs : List Lexeme} (b : ℕ) → is_blank b ≡ true → Lexes size bytes xs → Lexes size (b ∷ bytes) xs
lexes_blank b h l = record { cut = λ le. let c = l.cut (omega arith) in record { tokens = c.tokens; cut = tokens_behind h c.cut; are = c.are } }

-- ---- tokens

-- a token, and what stands behind it
lexes_token : {size : ℕ} {x : Lexeme} {xs : List Lexeme} (bytes rest : List ℕ) → gap bytes ≡ nothing → Reads bytes (token x rest) → is_end x ≡ false → length rest ≤ length bytes → Lexes size rest xs
    → Lexes size bytes (x ∷ xs)
lexes_token {size} {x} {xs} bytes rest g r e shorter l = record {
  cut = λ le.
      let c = l.cut (omega arith) in
      let t : Token = record { lexeme = x; start = size - length bytes; end = size - length rest } in
      record {
        tokens = t ∷ c.tokens;
        cut = next (record { from = bytes; skips = no_gap g; reads = r; start = omega arith; end = omega arith }) e c.cut;
        are = ap (λ (ys : List Lexeme). x ∷ ys) c.are;
      };
}

-- what ends a word
abbrev pub Ends : ℕ → Type 0
Ends b = ((bytes : List ℕ) → is_in class.Word b bytes ≡ false) × (is_digit b ≡ false)

first_same : (w : List ℕ) (b : ℕ) (rest : List ℕ) → is_digit b ≡ false → is_first is_digit (w ++ b ∷ rest) ≡ is_first is_digit w
first_same [] b rest h = h
first_same (c ∷ w) b rest h = refl

skip_word : (w : List ℕ) (b : ℕ) (rest : List ℕ) → skip class.Word w ≡ [] → Ends b → skip class.Word (w ++ b ∷ rest) ≡ b ∷ rest
unfolding skip
skip_word [] b rest h e = rw (e.0 rest) refl
skip_word (c ∷ w) b rest h e =
    let is : is_in class.Word c (w ++ b ∷ rest) ≡ is_in class.Word c w = rw (first_same w b rest e.1) refl in
    ap (λ (t : Bool). cond t (skip class.Word (w ++ b ∷ rest)) (c ∷ w ++ b ∷ rest)) is ∙ by_test (is_in class.Word c w) h (λ k. skip_word w b rest k e)
  where
    by_test : (t : Bool) → cond t (skip class.Word w) (c ∷ w) ≡ [] → (skip class.Word w ≡ [] → skip class.Word (w ++ b ∷ rest) ≡ b ∷ rest) → cond t (skip class.Word (w ++ b ∷ rest)) (c ∷ w ++ b ∷ rest) ≡ b ∷ rest
    by_test true k f = f k
    by_test false k f = absurd (let none : ⊥ = cc in none)

pub piece_word : (w : List ℕ) (b : ℕ) (rest : List ℕ) → IsWord w → Ends b → piece (w ++ b ∷ rest) ≡ token (word w) (b ∷ rest)
unfolding piece
piece_word [] b rest h e = absurd h
piece_word (c ∷ w) b rest h e =
    let s : skip class.Word (w ++ b ∷ rest) ≡ b ∷ rest = skip_word w b rest h.1 e in
    rw (h.0, s) (ap (λ (xs : List ℕ). token (word xs) (b ∷ rest)) (before_rest (c ∷ w) (b ∷ rest)))

apart : (c n : ℕ) → is_ascii_alphanumeric c ≡ true → is_ascii_alphanumeric n ≡ false → (c == n) ≡ false
apart c n h f = ne_eqb c n (λ e. true≢false (sym h ∙ ap is_ascii_alphanumeric e ∙ f))

apart_too : (c n : ℕ) → is_ascii_alphanumeric c ≡ true → is_ascii_alphanumeric n ≡ false → (n == c) ≡ false
apart_too c n h f = ne_eqb n c (λ e. true≢false (sym h ∙ ap is_ascii_alphanumeric (sym e) ∙ f))

-- no blank and no comment begins with a letter or a digit
pub gap_word : (c : ℕ) (bytes : List ℕ) → is_ascii_alphanumeric c ≡ true → gap (c ∷ bytes) ≡ nothing
unfolding gap
gap_word c bytes h =
    rw (apart c 32 h refl, apart c 9 h refl, apart c 10 h refl, apart c 13 h refl, apart_too c 47 h refl) refl

-- what ends words here: a space, the end of a line, and a bracket
pub space : Ends 32
space = (λ bytes. refl, refl)

pub line_end : Ends 10
line_end = (λ bytes. refl, refl)

pub bracket_ends : Ends 40
bracket_ends = (λ bytes. refl, refl)

no_shorter : (w rest : List ℕ) → length rest ≤ length (w ++ rest)
no_shorter w rest = omega (arith, length-append w rest)

pub lexes_word : {size : ℕ} {xs : List Lexeme} (w : List ℕ) (b : ℕ) (rest : List ℕ) → IsWord w → Ends b → is_end (word w) ≡ false → is_solve (word w) ≡ false → Lexes size (b ∷ rest) xs → Lexes size (w ++ b ∷ rest) (word w ∷ xs)
lexes_word [] b rest h e d s l = absurd h
lexes_word (c ∷ w) b rest h e d s l =
    lexes_token (c ∷ w ++ b ∷ rest) (b ∷ rest) (gap_word c (w ++ b ∷ rest) h.0) (as_it_is (piece_word (c ∷ w) b rest h e) s) d (no_shorter (c ∷ w) (b ∷ rest)) l

-- ---- goals

pub gap_bracket : (bytes : List ℕ) → gap (40 ∷ bytes) ≡ nothing
unfolding gap
gap_bracket bytes = refl

pub solve_goal : (inside rest : List ℕ) → Closes inside → solve_piece (inside ++ 41 ∷ rest) ≡ token (solve inside) rest
solve_goal inside rest closes =
    ap (closed_by (inside ++ 41 ∷ rest)) (closes rest) ∙ ap (λ (xs : List ℕ). token (solve xs) rest) (before_rest inside (41 ∷ rest))

pub is_word_solve : IsWord (codes "solve")
unfolding skip
is_word_solve = (refl, refl)

pub lexes_goal : {size : ℕ} {xs : List Lexeme} (inside rest : List ℕ) → Closes inside → Lexes size rest xs → Lexes size (codes "solve" ++ 40 ∷ (inside ++ 41 ∷ rest)) (solve inside ∷ xs)
lexes_goal inside rest closes l =
    let all = inside ++ 41 ∷ rest in
    lexes_token (codes "solve" ++ 40 ∷ all) rest (gap_word 115 (codes "olve" ++ 40 ∷ all) refl)
    (goal (piece_word (codes "solve") 40 all is_word_solve bracket_ends) refl (no_gap (gap_bracket all)) (solve_goal inside rest closes)) refl
    (omega (arith, length-append inside (41 ∷ rest))) l

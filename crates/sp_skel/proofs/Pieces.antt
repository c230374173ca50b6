-- Texts that are one word each, and in which no bracket counts: words of unbroken bytes, and constants in their quotes.
use Rattle.std.proofs.Common.{◌≡◌, ℕ, ◌<◌, true, false, List, [], ◌∷◌, ◌++◌, length, codes, refl, ap, ◌∙◌, append_assoc, length-append, arith}
use Rattle.std.specs.Prelude.{◌&&◌, ◌==◌, not, nat_le, nat_lt}
use Rattle.std.proofs.lemmas.Bool.{and_parts, not-true, lt-ltb}
use Rattle.std.proofs.Math.Bool.{and-false}
use Rattle.sp_spec.specs.Lists.{Every}
use Rattle.sp_spec_text.specs.Bytes as class
use Rattle.sp_spec_text.specs.Lex.{is_constant_byte, skip, close_constant, is_token, to_closing}
use Rattle.sp_spec_text.specs.Blanks.{onto_first}
use Rattle.sp_spec_printed.specs.StepLines.{IsQuotable}
use Rattle.sp_skel.specs.MoveTexts.{words_from}
use Rattle.sp_skel.proofs.Unbroken.{IsUnbroken, word_first, word_alone, closing_unbroken, Ends, ends}

pub record IsPiece (text : List ℕ) : Type 0 where
  pub first : (rest : List ℕ) → words_from false (text ++ 32 ∷ rest) ≡ text ∷ words_from false rest
  pub alone : words_from false text ≡ text ∷ []
  pub closes : (rest : List ℕ) → to_closing false 0 (text ++ rest) ≡ to_closing false 0 rest
  pub ends : Ends text

pub unbroken_piece : (w : List ℕ) → IsUnbroken w → IsPiece w
unbroken_piece w p = record { first = λ rest. word_first w rest p.unbroken; alone = word_alone w p.unbroken; closes = λ rest. closing_unbroken w rest p.unbroken; ends = ends w p }

-- ---- constants

abbrev pub AreConstant : List ℕ → Type 0
AreConstant c = Every (λ (b : ℕ). is_constant_byte b ≡ true) c

pub are_constant : (c : List ℕ) → IsQuotable c → AreConstant c
are_constant [] q = absurd q
are_constant (b ∷ c) q = q

no_quote : (b : ℕ) → is_constant_byte b ≡ true → (b == 39) ≡ false
no_quote b h = not-true (b == 39) (and_parts (nat_le 32 b && nat_le b 126) (not (b == 39)) h).1

-- behind the first quote no space ends the word, up to the second
words_inside : (c rest : List ℕ) (others : List (List ℕ)) → AreConstant c → words_from false rest ≡ [] ∷ others → words_from true (c ++ 39 ∷ rest) ≡ (c ++ 39 ∷ []) ∷ others
unfolding words_from
words_inside [] rest others h e = ap (onto_first 39) e
words_inside (b ∷ c) rest others h e = rw (and-false (b == 32), no_quote b h.0) (ap (onto_first b) (words_inside c rest others h.1 e))

words_quoted : (c rest : List ℕ) (others : List (List ℕ)) → AreConstant c → words_from false rest ≡ [] ∷ others → words_from false (39 ∷ (c ++ 39 ∷ rest)) ≡ (39 ∷ (c ++ 39 ∷ [])) ∷ others
unfolding words_from
words_quoted c rest others h e = ap (onto_first 39) (words_inside c rest others h e)

space_first : (rest : List ℕ) → words_from false (32 ∷ rest) ≡ [] ∷ words_from false rest
unfolding words_from
space_first rest = refl

nothing_left : words_from false [] ≡ [] ∷ []
unfolding words_from
nothing_left = refl

skip_constant : (c rest : List ℕ) → AreConstant c → skip class.Constant (c ++ 39 ∷ rest) ≡ 39 ∷ rest
unfolding skip
skip_constant [] rest h = refl
skip_constant (b ∷ c) rest h = rw h.0 (skip_constant c rest h.1)

begins : (c rest : List ℕ) → 0 < length c → AreConstant c → is_token (close_constant (c ++ 39 ∷ rest) (skip class.Constant (c ++ 39 ∷ rest))) ≡ true
begins c rest some h =
    let less : nat_lt (length (39 ∷ rest)) (length (c ++ 39 ∷ rest)) ≡ true = lt-ltb _ _ (omega (arith, length-append c (39 ∷ rest))) in
    rw (skip_constant c rest h, less) refl

-- behind the first quote no bracket counts, up to the second
closing_inside : (c rest : List ℕ) → AreConstant c → to_closing true 0 (c ++ 39 ∷ rest) ≡ to_closing false 0 rest
unfolding to_closing
closing_inside [] rest h = refl
closing_inside (b ∷ c) rest h = rw (no_quote b h.0) (closing_inside c rest h.1)

closing_quoted : (c rest : List ℕ) → 0 < length c → AreConstant c → to_closing false 0 (39 ∷ (c ++ 39 ∷ rest)) ≡ to_closing false 0 rest
unfolding to_closing
closing_quoted c rest some h = rw (begins c rest some h) (closing_inside c rest h)

not_empty : (c : List ℕ) → IsQuotable c → 0 < length c
not_empty [] q = absurd q
not_empty (b ∷ c) q = omega arith

pub quoted_piece : (c : List ℕ) → IsQuotable c → IsPiece (codes "'" ++ (c ++ codes "'"))
quoted_piece c q =
    let all : AreConstant c = are_constant c q in
    record {
      first = λ rest. ap (λ (bytes : List ℕ). words_from false (39 ∷ bytes)) (append_assoc c (codes "'") (32 ∷ rest)) ∙ words_quoted c (32 ∷ rest) (words_from false rest) all (space_first rest);
      alone = words_quoted c [] [] all nothing_left;
      closes = λ rest. ap (λ (bytes : List ℕ). to_closing false 0 (39 ∷ bytes)) (append_assoc c (codes "'") rest) ∙ closing_quoted c rest (not_empty c q) all;
      ends = record { front = 39 ∷ c; last = 39; are = refl; no_blank = refl };
    }

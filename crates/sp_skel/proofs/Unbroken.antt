-- Bytes that are no blanks, quotes and brackets: words of letters and digits are made of them.
use Rattle.std.proofs.Common.{◌≡◌, ℕ, ◌<◌, ◌≤◌, Bool, true, false, List, [], ◌∷◌, ◌++◌, length, reverse, refl, sym, ap, ◌∙◌, append_assoc, arith, codes}
use Rattle.std.specs.Prelude.{not, ◌&&◌, ◌||◌, ◌==◌, nat_le}
use Rattle.std.proofs.lemmas.Bool.{leb-true, ne_eqb, and_parts, or_parts, not-true}
use Rattle.std.proofs.lemmas.List.{reverse-append, reverse-reverse}
use Rattle.sp_spec_text.specs.Lex.{is_blank, is_digit, to_closing}
use Rattle.sp_spec_text.specs.Blanks.{unblanked, trimmed, onto_first}
use Rattle.sp_spec_text.specs.Numerals.{are_digits}
use Rattle.sp_skel.specs.MoveTexts.{words_from}

-- blanks end words, quotes begin constants, and brackets count
abbrev pub breaks : ℕ → Bool
breaks b = is_blank b || b == 39 || b == 40 || b == 41

abbrev pub are_unbroken : List ℕ → Bool
are_unbroken [] = true
are_unbroken (b ∷ bytes) = not (breaks b) && are_unbroken bytes

pub record IsUnbroken (w : List ℕ) : Type 0 where
  pub some : 0 < length w
  pub unbroken : are_unbroken w ≡ true

record IsOther (b : ℕ) : Type 0 where
  no_space : (b == 32) ≡ false
  no_blank : is_blank b ≡ false
  no_quote : (b == 39) ≡ false
  no_open : (b == 40) ≡ false
  no_close : (b == 41) ≡ false

other : (b : ℕ) → breaks b ≡ false → IsOther b
other b h =
    let close = or_parts (is_blank b || b == 39 || b == 40) (b == 41) h in
    let open_bracket = or_parts (is_blank b || b == 39) (b == 40) close.0 in
    let quote = or_parts (is_blank b) (b == 39) open_bracket.0 in
    record {
      no_space = (or_parts (b == 32) (b == 9) (or_parts (b == 32 || b == 9) (b == 10) (or_parts (b == 32 || b == 9 || b == 10) (b == 13) quote.0).0).0).0;
      no_blank = quote.0;
      no_quote = quote.1;
      no_open = open_bracket.1;
      no_close = close.1;
    }

first_other : (b : ℕ) (w : List ℕ) → are_unbroken (b ∷ w) ≡ true → IsOther b
first_other b w h = other b (not-true (breaks b) (and_parts (not (breaks b)) (are_unbroken w) h).0)

behind : (b : ℕ) (w : List ℕ) → are_unbroken (b ∷ w) ≡ true → are_unbroken w ≡ true
behind b w h = (and_parts (not (breaks b)) (are_unbroken w) h).1

is_other : (b c : ℕ) → 48 ≤ b → c < 48 → (b == c) ≡ false
is_other b c h l = ne_eqb b c (λ e. omega arith)

digit_unbroken : (b : ℕ) → 48 ≤ b → breaks b ≡ false
digit_unbroken b l =
    rw (is_other b 32 l (omega arith), is_other b 9 l (omega arith), is_other b 10 l (omega arith), is_other b 13 l (omega arith), is_other b 39 l (omega arith), is_other b 40 l (omega arith), is_other b 41 l (omega arith)) refl

pub digits_unbroken : (ds : List ℕ) → are_digits ds ≡ true → are_unbroken ds ≡ true
digits_unbroken [] h = refl
digits_unbroken (b ∷ ds) h =
    let d : nat_le 48 b ≡ true = (and_parts (nat_le 48 b) (nat_le b 57) (and_parts (is_digit b) (are_digits ds) h).0).0 in
    rw (digit_unbroken b (leb-true 48 b d)) (digits_unbroken ds (and_parts (is_digit b) (are_digits ds) h).1)

-- ---- words

-- a word before a space
pub word_first : (w rest : List ℕ) → are_unbroken w ≡ true → words_from false (w ++ 32 ∷ rest) ≡ w ∷ words_from false rest
unfolding words_from
word_first [] rest h = refl
word_first (b ∷ w) rest h =
    let o = first_other b w h in
    rw (o.no_space, o.no_quote) (ap (onto_first b) (word_first w rest (behind b w h)))

pub word_alone : (w : List ℕ) → are_unbroken w ≡ true → words_from false w ≡ w ∷ []
unfolding words_from
word_alone [] h = refl
word_alone (b ∷ w) h =
    let o = first_other b w h in
    rw (o.no_space, o.no_quote) (ap (onto_first b) (word_alone w (behind b w h)))

-- ---- brackets

pub closing_unbroken : (w rest : List ℕ) → are_unbroken w ≡ true → to_closing false 0 (w ++ rest) ≡ to_closing false 0 rest
unfolding to_closing
closing_unbroken [] rest h = refl
closing_unbroken (b ∷ w) rest h =
    let o = first_other b w h in
    rw (o.no_open, o.no_close, o.no_quote) (closing_unbroken w rest (behind b w h))

-- ---- blanks around

-- bytes before a last one that is no blank
pub record Ends (text : List ℕ) : Type 0 where
  pub front : List ℕ
  pub last : ℕ
  pub are : text ≡ front ++ last ∷ []
  pub no_blank : is_blank last ≡ false

ends_from : (b : ℕ) (w : List ℕ) → are_unbroken (b ∷ w) ≡ true → Ends (b ∷ w)
ends_from b [] h = record { front = []; last = b; are = refl; no_blank = (first_other b [] h).no_blank }
ends_from b (c ∷ w) h =
    let e = ends_from c w (behind b (c ∷ w) h) in
    record { front = b ∷ e.front; last = e.last; are = ap (λ (xs : List ℕ). b ∷ xs) e.are; no_blank = e.no_blank }

pub ends : (w : List ℕ) → IsUnbroken w → Ends w
ends [] p = absurd (omega (arith, p.some))
ends (b ∷ w) p = ends_from b w p.unbroken

-- behind others
pub ends_behind : (xs text : List ℕ) → Ends text → Ends (xs ++ text)
ends_behind xs text e = record {
  front = xs ++ e.front;
  last = e.last;
  are = ap (λ (ys : List ℕ). xs ++ ys) e.are ∙ sym (append_assoc xs e.front (e.last ∷ []));
  no_blank = e.no_blank;
}

unblanked_space : (bytes : List ℕ) → unblanked (32 ∷ bytes) ≡ unblanked bytes
unfolding unblanked
unblanked_space bytes = refl

unblanked_unbroken : (w rest : List ℕ) → IsUnbroken w → unblanked (w ++ rest) ≡ w ++ rest
unfolding unblanked
unblanked_unbroken [] rest p = absurd (omega (arith, p.some))
unblanked_unbroken (b ∷ w) rest p = rw ((first_other b w p.unbroken).no_blank) refl

-- behind a byte that is no blank a space is no part of the text
space_behind : (front : List ℕ) (b : ℕ) → is_blank b ≡ false → reverse (unblanked (reverse ((front ++ b ∷ []) ++ codes " "))) ≡ front ++ b ∷ []
unfolding unblanked
space_behind front b h =
    let one : reverse ((front ++ b ∷ []) ++ codes " ") ≡ 32 ∷ b ∷ reverse front = reverse-append (front ++ b ∷ []) (codes " ") ∙ ap (λ (xs : List ℕ). 32 ∷ xs) (reverse-append front (b ∷ [])) in
    let two : unblanked (32 ∷ b ∷ reverse front) ≡ reverse (front ++ b ∷ []) = rw h (sym (reverse-append front (b ∷ []))) in
    ap (λ (xs : List ℕ). reverse (unblanked xs)) one ∙ ap reverse two ∙ reverse-reverse (front ++ b ∷ [])

-- a text that begins with a word, and ends plainly, between spaces
pub trimmed_between : (w rest : List ℕ) → IsUnbroken w → Ends (w ++ rest) → trimmed (32 ∷ (w ++ (rest ++ codes " "))) ≡ w ++ rest
trimmed_between w rest p e =
    let one : unblanked (32 ∷ (w ++ (rest ++ codes " "))) ≡ (e.front ++ e.last ∷ []) ++ codes " " =
    unblanked_space (w ++ (rest ++ codes " ")) ∙ unblanked_unbroken w (rest ++ codes " ") p ∙ sym (append_assoc w rest (codes " ")) ∙ ap (λ (xs : List ℕ). xs ++ codes " ") e.are in
    ap (λ (xs : List ℕ). reverse (unblanked (reverse xs))) one ∙ space_behind e.front e.last e.no_blank ∙ sym e.are

-- The words among a text's tokens are one word each, and its constants may stand in quotes.
use Rattle.std.proofs.Common.{◌≡◌, ℕ, ◌<◌, Bool, true, false, cond, List, [], ◌∷◌, ◌++◌, length, drop, codes, Option, Some, None, refl, sym, ap, subst, ◌∙◌, arith}
use Rattle.std.specs.Prelude.{◌&&◌, ◌||◌, ◌==◌, nat_lt}
use Rattle.std.specs.Char.{is_ascii_alphanumeric}
use Rattle.std.specs.Int.{is_in_range}
use Rattle.std.proofs.lemmas.Bool.{ltb-true, and_parts}
use Rattle.sp_spec.specs.Lists.{Every}
use Rattle.sp_spec_text.specs.Bytes as class
use Rattle.sp_spec_text.specs.Bytes.{FaultKind, NoConstant}
use Rattle.sp_spec_text.specs.Signs.{Sign, Wide}
use Rattle.sp_spec_text.specs.Signs as s
use Rattle.sp_spec_text.specs.Token.{Lexeme, word, constant, sign, solve, wide, block, Token}
use Rattle.sp_spec_text.specs.Lex.{is_constant_byte, is_in, is_first, is_digit, skip, begins, before, Piece, token, no_token, short_sign, short_piece, first_sign, long_sign, long_piece, first_long, first_wide, after_block, close_block, close_constant, piece, to_closing, closed_by, Reads, as_it_is, bare, goal, AreTokens, no_more, last, next, lexemes}
use Rattle.sp_spec_text.proofs.Rests.{before_rest}
use Rattle.sp_spec_text.specs.Names.{IsWord}
use Rattle.sp_spec_text.specs.Plain.{text_beside, plain, is_quote, plain_to_quote}
use Rattle.sp_spec_printed.specs.StepLines.{IsQuotable}

-- ---- the bytes of a word

-- a byte that goes on with no word is no digit
no_digit : (d u l x y : Bool) → ((((d || u) || l) || x) || y) ≡ false → d ≡ false
no_digit true u l x y h = absurd (let none : ⊥ = cc in none)
no_digit false u l x y h = refl

not_in : (b : ℕ) (bytes : List ℕ) → is_in class.Word b bytes ≡ false → is_digit b ≡ false
not_in b bytes h = no_digit (is_in_range 48 57 b) (is_in_range 65 90 b) (is_in_range 97 122 b) (b == 95) (b == 46 && is_first is_digit bytes) h

in_more : (b : ℕ) (front : List ℕ) → is_in class.Word b front ≡ true → skip class.Word front ≡ [] → skip class.Word (b ∷ front) ≡ []
unfolding skip
in_more b front e h = rw (e, h) refl

in_same : (b : ℕ) (bytes front : List ℕ) → is_first is_digit bytes ≡ is_first is_digit front → is_in class.Word b bytes ≡ true → is_in class.Word b front ≡ true
in_same b bytes front e h = let f : is_in class.Word b bytes ≡ is_in class.Word b front = rw e refl in sym f ∙ h

-- The bytes with which a word goes on are one piece by themselves: a dot stands before a digit, which is one of them.
record Passed (bytes rest : List ℕ) : Type 0 where
  front : List ℕ
  are : bytes ≡ front ++ rest
  passes : skip class.Word front ≡ []
  ahead : is_first is_digit bytes ≡ is_first is_digit front

nothing_passes : skip class.Word [] ≡ []
unfolding skip
nothing_passes = refl

passed : (bytes : List ℕ) → Passed bytes (skip class.Word bytes)
unfolding skip
passed [] = record { front = []; are = refl; passes = nothing_passes; ahead = refl }
passed (b ∷ bytes) = by_test (is_in class.Word b bytes) refl (passed bytes)
  where
    by_test : (t : Bool) → is_in class.Word b bytes ≡ t → Passed bytes (skip class.Word bytes) → Passed (b ∷ bytes) (cond t (skip class.Word bytes) (b ∷ bytes))
    by_test true e h =
        record { front = b ∷ h.front; are = ap (λ (xs : List ℕ). b ∷ xs) h.are; passes = in_more b h.front (in_same b bytes h.front h.ahead e) h.passes; ahead = refl }
    by_test false e h = record { front = []; are = refl; passes = nothing_passes; ahead = not_in b bytes e }

-- ---- the bytes of a constant

-- the bytes with which a constant goes on are bytes of constants
record Quoted (bytes rest : List ℕ) : Type 0 where
  front : List ℕ
  are : bytes ≡ front ++ rest
  each : Every (λ (b : ℕ). is_constant_byte b ≡ true) front

quoted : (bytes : List ℕ) → Quoted bytes (skip class.Constant bytes)
unfolding skip
quoted [] = record { front = []; are = refl; each = tt }
quoted (b ∷ bytes) = by_test (is_in class.Constant b bytes) refl (quoted bytes)
  where
    by_test : (t : Bool) → is_in class.Constant b bytes ≡ t → Quoted bytes (skip class.Constant bytes) → Quoted (b ∷ bytes) (cond t (skip class.Constant bytes) (b ∷ bytes))
    by_test true e h = record { front = b ∷ h.front; are = ap (λ (xs : List ℕ). b ∷ xs) h.are; each = (e, h.each) }
    by_test false e h = record { front = []; are = refl; each = tt }

-- at least one such byte may stand in quotes
some_quotable : (front rest : List ℕ) → length rest < length (front ++ rest) → Every (λ (b : ℕ). is_constant_byte b ≡ true) front → IsQuotable front
some_quotable [] rest l h = absurd (omega (arith, l))
some_quotable (b ∷ front) rest l h = h

-- ---- what stands in a token

-- a word is one word, and a constant may stand in quotes
abbrev pub Spoken : Lexeme → Type 0
Spoken (word w) = IsWord w
Spoken (constant c) = IsQuotable c
Spoken (sign x) = Unit {0}
Spoken (solve t) = Unit {0}
Spoken (wide x) = Unit {0}
Spoken block = Unit {0}

abbrev SpokenFirst : Piece → Type 0
SpokenFirst (token x rest) = Spoken x
SpokenFirst (no_token kind) = Unit {0}

-- the token, if the piece is one, is spoken
record IsSpoken (p : Piece) : Type 0 where
  is : SpokenFirst p

spoken_either : (t : Bool) {x y : Piece} → IsSpoken x → IsSpoken y → IsSpoken (cond t x y)
spoken_either true h k = h
spoken_either false h k = k

spoken_none : {kind : FaultKind} → IsSpoken (no_token kind)
spoken_none = record { is = tt }

spoken_sign : (x : Sign) (rest : List ℕ) → IsSpoken (token (sign x) rest)
spoken_sign x rest = record { is = tt }

spoken_short : (o : Option Sign) (bytes : List ℕ) → IsSpoken (short_piece o bytes)
spoken_short None bytes = spoken_none
spoken_short (Some x) bytes = spoken_sign x bytes

spoken_first : (b : ℕ) (bytes : List ℕ) → IsSpoken (first_sign (b ∷ bytes))
unfolding first_sign
spoken_first b bytes =
    let long : (x : Sign) → IsSpoken (token (sign x) (drop 3 (b ∷ bytes))) = λ x. spoken_sign x (drop 3 (b ∷ bytes)) in
    spoken_either _ (long s.OpenArrow)
    (spoken_either _ (long s.CloseArrow)
    (spoken_either _ (long s.Arrow) (spoken_either _ (long s.Implies) (spoken_either _ (long s.Iff) (spoken_short (short_sign b) bytes)))))

spoken_wide_sign : (x : Wide) (rest : List ℕ) → IsSpoken (token (wide x) rest)
spoken_wide_sign x rest = record { is = tt }

spoken_long_piece : (o : Option Wide) (bytes : List ℕ) → IsSpoken (long_piece o bytes)
spoken_long_piece None bytes = spoken_none
spoken_long_piece (Some x) bytes = spoken_wide_sign x bytes

spoken_long : (bytes : List ℕ) → IsSpoken (first_long bytes)
spoken_long [] = spoken_none
spoken_long (a ∷ []) = spoken_none
spoken_long (a ∷ b ∷ []) = spoken_none
spoken_long (a ∷ b ∷ c ∷ bytes) = spoken_long_piece (long_sign a b c) bytes

spoken_wide : (bytes : List ℕ) → IsSpoken (first_wide bytes)
unfolding first_wide
spoken_wide bytes = spoken_either (begins (194 ∷ 172 ∷ []) bytes) (spoken_wide_sign s.Not (drop 2 bytes)) (spoken_long bytes)

spoken_block : (o : Option (List ℕ)) → IsSpoken (close_block o)
spoken_block None = spoken_none
spoken_block (Some rest) = record { is = tt }

spoken_word : (t : Bool) (b : ℕ) (bytes rest : List ℕ) {x : Piece} → is_ascii_alphanumeric b ≡ t → Passed bytes rest → IsSpoken x
    → IsSpoken (cond t (token (word (before (b ∷ bytes) rest)) rest) x)
spoken_word true b bytes rest e h k =
    let i : b ∷ h.front ≡ before (b ∷ bytes) rest = sym (ap (λ (xs : List ℕ). before (b ∷ xs) rest) h.are ∙ before_rest (b ∷ h.front) rest) in
    record { is = subst IsWord i (e, h.passes) }
spoken_word false b bytes rest e h k = k

-- a constant ends behind at least one byte
spoken_constant : (bytes rest : List ℕ) → Quoted bytes rest → IsSpoken (close_constant bytes rest)
spoken_constant bytes rest h = by_test (nat_lt (length rest) (length bytes) && is_first (λ b. b == 39) rest) refl
  where
    by_test : (t : Bool) → (nat_lt (length rest) (length bytes) && is_first (λ b. b == 39) rest) ≡ t
        → IsSpoken (cond t (token (constant (before bytes rest)) (drop 1 rest)) (no_token NoConstant))
    by_test true e =
        let l = ltb-true (length rest) (length bytes) (and_parts (nat_lt (length rest) (length bytes)) (is_first (λ b. b == 39) rest) e).0 in
        let m : length rest < length (h.front ++ rest) = subst (λ (xs : List ℕ). length rest < length xs) h.are l in
        let i : h.front ≡ before bytes rest = sym (ap (λ (xs : List ℕ). before xs rest) h.are ∙ before_rest h.front rest) in
        record { is = subst IsQuotable i (some_quotable h.front rest m h.each) }
    by_test false e = spoken_none

spoken_piece : (bytes : List ℕ) → IsSpoken (piece bytes)
unfolding piece first_sign
spoken_piece [] = spoken_none
spoken_piece (b ∷ bytes) =
    spoken_word (is_ascii_alphanumeric b) b bytes (skip class.Word bytes) refl (passed bytes)
    (spoken_either (b == 39) (spoken_constant bytes (skip class.Constant bytes) (quoted bytes))
    (spoken_either (begins (codes "{*") (b ∷ bytes)) (spoken_block (after_block (drop 2 (b ∷ bytes)))) (spoken_either (b == 194 || b == 226) (spoken_wide (b ∷ bytes)) (spoken_first b bytes))))

spoken_closed : (bytes : List ℕ) (o : Option (List ℕ)) → IsSpoken (closed_by bytes o)
spoken_closed bytes None = spoken_none
spoken_closed bytes (Some rest) = record { is = tt }

spoken_read : {bytes : List ℕ} {p : Piece} → Reads bytes p → IsSpoken p
spoken_read {bytes} (as_it_is e d) = subst IsSpoken e (spoken_piece bytes)
spoken_read {bytes} (bare e t n) = subst IsSpoken e (spoken_piece bytes)
spoken_read (goal {inside = i} e t h k) = subst IsSpoken k (spoken_closed i (to_closing false 0 i))

-- each token of a text is spoken
pub tokens_spoken : {size : ℕ} {bytes : List ℕ} {ts : List Token} → AreTokens size bytes ts → Every Spoken (lexemes ts)
tokens_spoken (no_more s) = tt
tokens_spoken (last {t = t} n e) = ((spoken_read n.reads).is, tt)
tokens_spoken (next {t = t} n e h) = ((spoken_read n.reads).is, tokens_spoken h)

-- ---- formulas: the text beside a sign of logic is spoken too

spoken_beside : (x : Wide) → Spoken (text_beside x)
unfolding skip
spoken_beside s.All = (refl, refl)
spoken_beside s.Ex = (refl, refl)
spoken_beside s.Both = tt
spoken_beside s.Either = tt
spoken_beside s.Not = (refl, refl)
spoken_beside s.Then = tt
spoken_beside s.Same = tt
spoken_beside s.True = (refl, refl)
spoken_beside s.False = (refl, refl)

spoken_as_read : (x : Lexeme) → Spoken x → Spoken (plain x)
spoken_as_read (word w) h = h
spoken_as_read (constant c) h = h
spoken_as_read (sign x) h = h
spoken_as_read (solve t) h = h
spoken_as_read (wide x) h = spoken_beside x
spoken_as_read block h = h

pub spoken_plain : (tokens : List Lexeme) → Every Spoken tokens → Every Spoken (plain_to_quote tokens)
spoken_plain [] k = tt
spoken_plain (x ∷ tokens) k = by_test (is_quote x) (spoken_plain tokens k.1)
  where
    by_test : (t : Bool) → Every Spoken (plain_to_quote tokens) → Every Spoken (cond t (x ∷ tokens) (plain x ∷ plain_to_quote tokens))
    by_test true later = k
    by_test false later = (spoken_as_read x k.0, later)

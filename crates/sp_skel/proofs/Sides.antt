-- What stands behind the word of a goal is one word, and is read back from it.
use Rattle.std.proofs.Common.{◌≡◌, ℕ, ◌<◌, ◌≤◌, true, false, List, [], ◌∷◌, ◌++◌, codes, Some, None, option_and_then, refl, arith}
use Rattle.std.specs.Prelude.{decimal, nat_le}
use Rattle.std.specs.List.{list_all}
use Rattle.std.proofs.lemmas.Bool.{leb-true, ne_eqb, and_parts}
use Rattle.sp_spec_text.specs.Lex.{is_constant_byte, is_digit}
use Rattle.sp_spec_text.specs.Numerals.{are_digits}
use Rattle.sp_spec_printed.specs.StepLines.{IsQuotable}
use Rattle.sp_spec_text.proofs.Numerals.{decimal_are_digits}
use Rattle.sp_spec_system.specs.Move.{Side, fresh_side, public_side, constant_side}
use Rattle.sp_spec_system.specs.Words.{Argument, place, time, variable, side, digits, said_of, limit, SideWithin, IsWithin, EachWithin, side_text, argument_text}
use Rattle.sp_skel.specs.MoveTexts.{unquoted, constant_of, side_of, said_by}
use Rattle.sp_skel.specs.Places.{IsQuoted}
use Rattle.sp_skel.proofs.Constants.{unquoted_behind}
use Rattle.sp_skel.proofs.Decimals.{number_of_decimal, decimal_unbroken}
use Rattle.sp_skel.proofs.Unbroken.{breaks}
use Rattle.sp_skel.proofs.Pieces.{IsPiece, unbroken_piece, AreConstant, are_constant, quoted_piece}

-- ---- constants

all_constant : (c : List ℕ) → AreConstant c → list_all is_constant_byte c ≡ true
all_constant [] h = refl
all_constant (b ∷ c) h = rw h.0 (all_constant c h.1)

constant_back : (c : List ℕ) → IsQuotable c → option_and_then constant_of (unquoted (c ++ codes "'")) ≡ Some (constant_side c)
constant_back [] q = absurd q
constant_back (b ∷ c) q = rw (unquoted_behind (b ∷ c) 39, all_constant (b ∷ c) (are_constant (b ∷ c) q)) refl

-- ---- sides

side_back : (a : Side) → SideWithin a → IsQuoted a → side_of (side_text a) ≡ Some a
side_back (fresh_side k) h q = rw (number_of_decimal k h) refl
side_back (public_side k) h q = rw (number_of_decimal k h) refl
side_back (constant_side c) h q = constant_back c q

marked_piece : (b k : ℕ) → breaks b ≡ false → k < limit → IsPiece (b ∷ decimal k)
marked_piece b k n h = unbroken_piece (b ∷ decimal k) (record { some = omega arith; unbroken = rw n (decimal_unbroken k h).unbroken })

side_piece : (a : Side) → SideWithin a → IsQuoted a → IsPiece (side_text a)
side_piece (fresh_side k) h q = marked_piece 126 k refl h
side_piece (public_side k) h q = marked_piece 36 k refl h
side_piece (constant_side c) h q = quoted_piece c q

-- ---- arguments

-- a number in digits is no side
no_side : (ds : List ℕ) → are_digits ds ≡ true → side_of ds ≡ None
no_side [] h = refl
no_side (b ∷ ds) h =
    let d = and_parts (nat_le 48 b) (nat_le b 57) (and_parts (is_digit b) (are_digits ds) h).0 in
    let least : 48 ≤ b = leb-true 48 b d.0 in
    let most : b ≤ 57 = leb-true b 57 d.1 in
    rw (ne_eqb b 126 (λ e. omega arith), ne_eqb b 36 (λ e. omega arith), ne_eqb b 39 (λ e. omega arith)) refl

number_back : (k : ℕ) → k < limit → said_by (decimal k) ≡ Some (digits k)
number_back k h = rw (no_side (decimal k) (decimal_are_digits k h), number_of_decimal k h) refl

number_piece : (k : ℕ) → k < limit → IsPiece (decimal k)
number_piece k h = unbroken_piece (decimal k) (decimal_unbroken k h)

-- the constant in it, if there is one, may stand in quotes
abbrev pub HasQuotable : Argument → Type 0
HasQuotable (side a) = IsQuoted a
HasQuotable a = Unit {0}

abbrev pub EachQuotable : List Argument → Type 0
EachQuotable [] = Unit {0}
EachQuotable (a ∷ arguments) = HasQuotable a × EachQuotable arguments

pub record IsReadBack (a : Argument) : Type 0 where
  pub piece : IsPiece (argument_text a)
  pub said : said_by (argument_text a) ≡ Some (said_of a)

number_read : (a : Argument) (k : ℕ) → argument_text a ≡ decimal k → said_of a ≡ digits k → k < limit → IsReadBack a
number_read a k text is h = record { piece = rw text (number_piece k h); said = rw (text, is) (number_back k h) }

argument_read : (a : Argument) → IsWithin a → HasQuotable a → IsReadBack a
argument_read (place k) h q = number_read (place k) k refl refl h
argument_read (time i) h q = number_read (time i) i refl refl h
argument_read (variable k) h q = number_read (variable k) k refl refl h
argument_read (side a) h q = record { piece = side_piece a h q; said = rw (side_back a h q) refl }

abbrev pub EachReadBack : List Argument → Type 0
EachReadBack [] = Unit {0}
EachReadBack (a ∷ arguments) = IsReadBack a × EachReadBack arguments

pub each_read : (arguments : List Argument) → EachWithin arguments → EachQuotable arguments → EachReadBack arguments
each_read [] h q = tt
each_read (a ∷ arguments) h q = (argument_read a h.0 q.0, each_read arguments h.1 q.1)

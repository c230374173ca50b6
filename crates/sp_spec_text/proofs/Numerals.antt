-- The values of digits, and the digits of numbers.
use Rattle.std.proofs.Common.{◌≡◌, ℕ, ◌+◌, ◌-◌, ◌*◌, ◌^◌, ◌<◌, ◌≤◌, true, false, List, [], ◌∷◌, Some, None, refl, ◌∙◌, arith, rules}
use Rattle.std.specs.Prelude.{decimal, nat_lt}
use Rattle.std.proofs.lemmas.Bool.{and_parts}
use Rattle.std.proofs.lemmas.Bool.Decides.{nat_tests}
use Rattle.std.proofs.lemmas.Fmt.{decimal_is_IsNumeral_wide}
use Rattle.std.proofs.lemmas.Str.Parse.{IsNumeralModel, numerals_by_fold}
use Rattle.sp_spec_text.specs.Bytes as class
use Rattle.sp_spec_text.specs.Lex.{is_in, is_digit, skip}
use Rattle.sp_spec_text.specs.Numerals.{are_digits, value, below_limit}

pub value_least : (n : ℕ) (bytes : List ℕ) → n ≤ value n bytes
value_least n [] = omega arith
value_least n (b ∷ bytes) = let h = value_least (10 * n + (b - 48)) bytes in omega arith

pub too_large : (n : ℕ) → 2 ^ 128 ≤ n → below_limit n ≡ None
too_large n h = let e : nat_lt n (2 ^ 128) ≡ false = grind (arith, nat_tests) in rw e refl

pub fits : (n : ℕ) → n < 2 ^ 128 → below_limit n ≡ Some n
fits n h = let e : nat_lt n (2 ^ 128) ≡ true = grind (arith, nat_tests) in rw e refl

pub ruleset numbers = (value_least, too_large, fits)

-- ---- the digits of a number

own : IsNumeralModel (λ ds. are_digits ds ≡ true) (value 0)
own = numerals_by_fold (λ ds. are_digits ds ≡ true) (search rules) value (search rules)

-- numbers of 128 bits have fewer digits than `decimal` writes
pub few : (k : ℕ) → k < 2 ^ 128 → k < 10 ^ 64
few k h = omega arith

pub decimal_are_digits : (k : ℕ) → k < 2 ^ 128 → are_digits (decimal k) ≡ true
decimal_are_digits k h = own.from (decimal k) (decimal_is_IsNumeral_wide k (few k h)).0.1

pub decimal_says : (k : ℕ) → k < 2 ^ 128 → value 0 (decimal k) ≡ k
decimal_says k h = let w = decimal_is_IsNumeral_wide k (few k h) in own.same (decimal k) w.0.1 ∙ w.1

-- ---- digits in a word

pub digit_in_word : (b : ℕ) (bytes : List ℕ) → is_digit b ≡ true → is_in class.Word b bytes ≡ true
digit_in_word b bytes h = rw h refl

pub digits_skipped : (ds : List ℕ) → are_digits ds ≡ true → skip class.Word ds ≡ []
unfolding skip
digits_skipped [] h = refl
digits_skipped (b ∷ ds) h = let both = and_parts (is_digit b) (are_digits ds) h in rw (digit_in_word b ds both.0) (digits_skipped ds both.1)

-- Numbers are read back from their digits.
use Rattle.std.proofs.Common.{◌≡◌, ℕ, zero, suc, ◌+◌, ◌^◌, ◌%◌, ◌<◌, false, List, [], ◌∷◌, length, get_or, Some, refl, length-append, arith}
use Rattle.std.specs.Prelude.{decimal}
use Rattle.std.proofs.lemmas.Bool.{ne_eqb}
use Rattle.std.proofs.Math.ListN.{get_or-append}
use Rattle.std.proofs.lemmas.Fmt.{decimal_digit, decimal_is_IsNumeral_wide, decimal_by_steps_wide}
use Rattle.sp_spec_text.proofs.Numerals.{fits, few, decimal_are_digits, decimal_says}
use Rattle.sp_skel.specs.MoveTexts.{has_leading_zero, is_empty, number_of}
use Rattle.sp_skel.proofs.Unbroken.{IsUnbroken, digits_unbroken}

no_leading_zero : (ds : List ℕ) → (get_or ds 0 0 ≡ 48 → ⊥) → has_leading_zero ds ≡ false
no_leading_zero [] d = refl
no_leading_zero (b ∷ []) d = refl
no_leading_zero (b ∷ c ∷ ds) d = ne_eqb b 48 d

decimal_not_empty : (k : ℕ) → k < 2 ^ 128 → 0 < length (decimal k)
decimal_not_empty k h = (decimal_is_IsNumeral_wide k (few k h)).0.0

first_digit : (k : ℕ) → 0 < k → k < 10 ^ 64 → 48 < get_or (decimal k) 0 0
first_digit k some small =
    (decimal_by_steps_wide (λ m ds. (0 < length ds) × (0 < m → 48 < get_or ds 0 0)) (λ m l. (omega arith, λ a. omega arith))
    (λ m ds l h. (omega (arith, length-append ds ((48 + m % 10) ∷ [])), λ a. omega (arith, get_or-append ds ((48 + m % 10) ∷ []) 0 0 h.0, h.1 (omega arith)))) k small).1 some

decimal_leads : (k : ℕ) → k < 2 ^ 128 → has_leading_zero (decimal k) ≡ false
decimal_leads zero h = rw (decimal_digit 0 (omega arith)) refl
decimal_leads (suc k) h = no_leading_zero (decimal (suc k)) (λ e. let f = first_digit (suc k) (omega arith) (few (suc k) h) in omega arith)

not_empty : (ds : List ℕ) → 0 < length ds → is_empty ds ≡ false
not_empty [] h = absurd (omega arith)
not_empty (b ∷ ds) h = refl

pub number_of_decimal : (k : ℕ) → k < 2 ^ 128 → number_of (decimal k) ≡ Some k
unfolding number_of
number_of_decimal k h = rw (not_empty (decimal k) (decimal_not_empty k h), decimal_leads k h, decimal_are_digits k h, decimal_says k h) (fits k h)

pub decimal_unbroken : (k : ℕ) → k < 2 ^ 128 → IsUnbroken (decimal k)
decimal_unbroken k h = record { some = decimal_not_empty k h; unbroken = digits_unbroken (decimal k) (decimal_are_digits k h) }

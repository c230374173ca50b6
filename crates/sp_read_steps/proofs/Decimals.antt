-- Numbers of fresh names as they are printed.
use Rattle.std.proofs.Common.{◌≡◌, ℕ, ◌+◌, ◌-◌, ◌*◌, ◌/◌, ◌%◌, ◌^◌, ◌<◌, ◌≤◌, Bool, true, false, List, [], ◌∷◌, ◌++◌, Some, None, refl, sym, ap, ◌∙◌, append_assoc, append-nil, arith}
use Rattle.std.specs.Prelude.{decimal, ◌&&◌, ◌==◌, not, nat_le, nat_lt, if◌then◌else◌}
use Rattle.std.proofs.lemmas.Bool.{leb-true, and_parts, not-true, ltb-true}
use Rattle.std.proofs.lemmas.Bool.Decides.{nat_tests}
use Rattle.std.proofs.lemmas.Fmt.{decimal_digit, decimal_step_wide, decimal_by_steps_wide}
use Rattle.sp_spec_text.specs.Lex.{is_first, is_digit}
use Rattle.sp_spec_text.specs.Numerals.{are_digits, value, below_limit}
use Rattle.sp_spec_text.proofs.Numerals.{value_least, fits, few, decimal_are_digits, decimal_says}
use Rattle.sp_read_steps.specs.Reading.{is_leading, number_of}

digit_least : (b : ℕ) → is_digit b ≡ true → 48 ≤ b
digit_least b h = leb-true 48 b (and_parts (nat_le 48 b) (nat_le b 57) h).0

digit_most : (b : ℕ) → is_digit b ≡ true → b ≤ 57
digit_most b h = leb-true b 57 (and_parts (nat_le 48 b) (nat_le b 57) h).1

-- ---- from digits to the number

digit_behind : (n b : ℕ) → 0 < n → 48 ≤ b → b ≤ 57 → 10 * n + (b - 48) < 10 ^ 64 → decimal (10 * n + (b - 48)) ≡ decimal n ++ b ∷ []
digit_behind n b p l m h =
    let d : (10 * n + (b - 48)) / 10 ≡ n = omega arith in
    let r : 48 + (10 * n + (b - 48)) % 10 ≡ b = omega arith in
    decimal_step_wide (10 * n + (b - 48)) (omega arith) h ∙ ap (λ (k : ℕ). decimal k ++ (48 + (10 * n + (b - 48)) % 10) ∷ []) d ∙ ap (λ (k : ℕ). decimal n ++ k ∷ []) r

digits_behind : (n : ℕ) (ds : List ℕ) → 0 < n → are_digits ds ≡ true → value n ds < 10 ^ 64 → decimal (value n ds) ≡ decimal n ++ ds
digits_behind n [] p h l = sym (append-nil (decimal n))
digits_behind n (b ∷ ds) p h l =
    let d = (and_parts (is_digit b) (are_digits ds) h).0 in
    let m = 10 * n + (b - 48) in
    let low = digit_least b d in
    let high = digit_most b d in
    let small = value_least m ds in
    let e : decimal m ≡ decimal n ++ b ∷ [] = digit_behind n b p low high (omega arith) in
    digits_behind m ds (omega arith) (and_parts (is_digit b) (are_digits ds) h).1 l ∙ ap (λ (xs : List ℕ). xs ++ ds) e ∙ append_assoc (decimal n) (b ∷ []) ds

pub record IsNumber (ds : List ℕ) (n : ℕ) : Type 0 where
  pub digits : ds ≡ decimal n
  pub positive : 0 < n
  pub small : n < 2 ^ 128

leading_number : (ds : List ℕ) → is_first is_leading ds ≡ true → are_digits ds ≡ true → value 0 ds < 2 ^ 128 → IsNumber ds (value 0 ds)
leading_number [] f h l = absurd (let none : ⊥ = cc in none)
leading_number (b ∷ ds) f h l =
    let d = (and_parts (is_digit b) (not (b == 48)) f).0 in
    let low = digit_least b d in
    let high = digit_most b d in
    let other : b ≡ 48 → ⊥ = λ e. let k = not-true (b == 48) (and_parts (is_digit b) (not (b == 48)) f).1 in grind (arith, nat_tests) in
    let n = 10 * 0 + (b - 48) in
    let least = value_least n ds in
    let e : decimal n ≡ b ∷ [] = decimal_digit n (omega arith) ∙ ap (λ (k : ℕ). k ∷ []) (omega arith) in
    record {
      digits = sym (digits_behind n ds (omega arith) (and_parts (is_digit b) (are_digits ds) h).1 (omega arith) ∙ ap (λ (xs : List ℕ). xs ++ ds) e);
      positive = omega arith;
      small = l;
    }

pub number_is : (ds : List ℕ) (n : ℕ) → number_of ds ≡ Some n → IsNumber ds n
unfolding number_of
number_is ds n h = by_test (is_first is_leading ds && are_digits ds) refl h
  where
    limited : (m : Bool) → nat_lt (value 0 ds) (2 ^ 128) ≡ m → is_first is_leading ds ≡ true → are_digits ds ≡ true → (if m then Some (value 0 ds) else None) ≡ Some n → IsNumber ds n
    limited true m f d e = let i : value 0 ds ≡ n = cc in rw (← i) (leading_number ds f d (ltb-true (value 0 ds) (2 ^ 128) m))
    limited false m f d e = absurd (let none : ⊥ = cc in none)

    by_test : (t : Bool) → (is_first is_leading ds && are_digits ds) ≡ t → (if t then below_limit (value 0 ds) else None) ≡ Some n → IsNumber ds n
    by_test true t e = limited (nat_lt (value 0 ds) (2 ^ 128)) refl (and_parts (is_first is_leading ds) (are_digits ds) t).0 (and_parts (is_first is_leading ds) (are_digits ds) t).1 e
    by_test false t e = absurd (let none : ⊥ = cc in none)

-- ---- from the number to digits

digit_leads : (n : ℕ) → 0 < n → n < 10 → is_leading (48 + n) ≡ true
digit_leads n p l = grind (arith, nat_tests)

still_leads : (ds : List ℕ) (b : ℕ) → is_first is_leading ds ≡ true → is_first is_leading (ds ++ b ∷ []) ≡ true
still_leads [] b h = absurd (let none : ⊥ = cc in none)
still_leads (c ∷ ds) b h = h

decimal_leads : (n : ℕ) → 0 < n → n < 10 ^ 64 → is_first is_leading (decimal n) ≡ true
decimal_leads n p h = decimal_by_steps_wide (λ m ds. 0 < m → is_first is_leading ds ≡ true) (λ m l q. digit_leads m q l) (λ m ds l f q. still_leads ds (48 + m % 10) (f (omega arith))) n h p

pub number_of_decimal : (n : ℕ) → 0 < n → n < 2 ^ 128 → number_of (decimal n) ≡ Some n
unfolding number_of
number_of_decimal n p h = rw (decimal_leads n p (few n h), decimal_are_digits n h, decimal_says n h) (fits n h)

-- Different numbers are written differently, and those below 2^64 as the program writes them.
use Rattle.std.proofs.Common.{◌≡◌, ◌<◌, ◌≤◌, ℕ, zero, suc, ◌+◌, ◌-◌, ◌*◌, ◌^◌, Bool, true, false, if◌then◌else◌, List, [], ◌∷◌, ◌++◌, refl, sym, ap, ◌∙◌, arith}
use Rattle.std.specs.Prelude.{◌/◌, ◌%◌, nat_lt, decimal}
use Rattle.std.proofs.lemmas.Bool.Decides.{nat_tests}
use Rattle.std.proofs.lemmas.Fmt.{AppendsLastDigit, decimal_from_appends, length-decimal-le_succ}
use Rattle.sp_spec_solved.specs.Numeral.{digits_within, numeral}

-- ---- what digits say

-- behind those that say this number
abbrev value_after : ℕ → List ℕ → ℕ
value_after n [] = n
value_after n (c ∷ cs) = value_after (10 * n + (c - 48)) cs

last_digit : (n c : ℕ) (cs : List ℕ) → value_after n (cs ++ c ∷ []) ≡ 10 * value_after n cs + (c - 48)
last_digit n c [] = refl
last_digit n c (d ∷ cs) = last_digit (10 * n + (d - 48)) c cs

digits_say : (k n : ℕ) → n < k → value_after 0 (digits_within k n) ≡ n
digits_say zero n h = absurd (omega arith)
digits_say (suc k) n h = by_test (nat_lt n 10) refl (λ l. digits_say k (n / 10) l)
  where
    by_test : (b : Bool) → nat_lt n 10 ≡ b → (n / 10 < k → value_after 0 (digits_within k (n / 10)) ≡ n / 10)
        → value_after 0 (if b then (48 + n) ∷ [] else digits_within k (n / 10) ++ (48 + n % 10) ∷ []) ≡ n
    by_test true e front = omega arith
    by_test false e front =
        let large : 10 ≤ n = grind (arith, nat_tests) in
        let said = front (omega arith) in
        let last_said = last_digit 0 (48 + n % 10) (digits_within k (n / 10)) in
        omega arith

pub numeral_injective : (j k : ℕ) → numeral j ≡ numeral k → j ≡ k
unfolding numeral
numeral_injective j k e = sym (digits_say (suc j) j (omega arith)) ∙ ap (value_after 0) e ∙ digits_say (suc k) k (omega arith)

-- ---- below the bound

appends : AppendsLastDigit digits_within
appends = record { one = λ k n h. by_small k n (nat_lt n 10) refl h; more = λ k n h. by_large k n (nat_lt n 10) refl h }
  where
    by_small : (k n : ℕ) (b : Bool) → nat_lt n 10 ≡ b → n < 10 → (if b then (48 + n) ∷ [] else digits_within k (n / 10) ++ (48 + n % 10) ∷ []) ≡ (48 + n) ∷ []
    by_small k n true e h = refl
    by_small k n false e h = absurd (grind (arith, nat_tests))

    by_large : (k n : ℕ) (b : Bool) → nat_lt n 10 ≡ b → 10 ≤ n → (if b then (48 + n) ∷ [] else digits_within k (n / 10) ++ (48 + n % 10) ∷ []) ≡ digits_within k (n / 10) ++ (48 + n % 10) ∷ []
    by_large k n true e h = absurd (grind (arith, nat_tests))
    by_large k n false e h = refl

pub numeral_decimal : (k : ℕ) → k < 2 ^ 64 → numeral k ≡ decimal k
unfolding numeral
numeral_decimal k h = decimal_from_appends digits_within appends (suc k) k h (let l = length-decimal-le_succ k h in omega arith)

-- Counts that end at what the program's numbers can say.
use Rattle.std.proofs.Common.{◌≡◌, ℕ, ◌+◌, ◌-◌, ◌*◌, List, [], ◌∷◌, sym, ap, ◌∙◌, arith}
use Rattle.sp_spec_text.specs.Numerals.{value, counted}

-- behind the last count nothing changes
counted_digit : (n d : ℕ) → counted (10 * counted n + d) ≡ counted (10 * n + d)
counted_digit n d = omega arith

pub counted_value : (n : ℕ) (bytes : List ℕ) → counted (value (counted n) bytes) ≡ counted (value n bytes)
counted_value n [] = omega arith
counted_value n (b ∷ bytes) =
    sym (counted_value (10 * counted n + (b - 48)) bytes)
    ∙ (ap (λ (m : ℕ). counted (value m bytes)) (counted_digit n (b - 48)) ∙ counted_value (10 * n + (b - 48)) bytes)

-- with a digit that was behind the number
pub count_more : (bytes : List ℕ) (n d : ℕ) → counted (value (counted (10 * n + (d - 48))) bytes) ≡ counted (value n (d ∷ bytes))
count_more bytes n d = counted_value (10 * n + (d - 48)) bytes

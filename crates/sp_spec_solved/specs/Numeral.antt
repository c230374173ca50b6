-- Numbers as they are written, however great they are: the decimal digits, as codes of characters (that of 0 is 48), the most significant first,
-- with no zero in front, and 0 for zero. Source: decimal notation; Knuth, "The Art of Computer Programming", section 4.4 (digits by division).
use Rattle.std.specs.Prelude.{ℕ, zero, suc, ◌+◌, ◌/◌, ◌%◌, nat_lt, if◌then◌else◌, List, [], ◌∷◌, ◌++◌}

-- the digits of a tenth of the number, and then its last one; at most so many
abbrev pub digits_within : ℕ → ℕ → List ℕ
digits_within zero n = []
digits_within (suc k) n = if nat_lt n 10 then (48 + n) ∷ [] else digits_within k (n / 10) ++ (48 + n % 10) ∷ []

-- no number has more digits than it counts, but for zero, which has one
unfoldable pub numeral : ℕ → List ℕ
numeral n = digits_within (suc n) n

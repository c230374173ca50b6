-- What decimal digits say. Source of the digits: Tamarin manual, "Syntax description"; that numbers stay below 2^128 is this project's own.
use Rattle.std.specs.Prelude.{ℕ, ◌+◌, ◌-◌, ◌*◌, ◌^◌, Bool, true, false, not, ◌&&◌, ◌==◌, nat_lt, if◌then◌else◌, List, [], ◌∷◌, Option, Some, None, min}
use Rattle.sp_spec_text.specs.Lex.{is_digit}

abbrev pub are_digits : List ℕ → Bool
are_digits [] = true
are_digits (b ∷ bytes) = is_digit b && are_digits bytes

-- a number as a text writes it: digits, of which the first is 0 only where it stands alone
abbrev pub is_numeral : List ℕ → Bool
is_numeral [] = false
is_numeral (b ∷ []) = is_digit b
is_numeral (b ∷ c ∷ bytes) = is_digit b && (not (b == 48) && are_digits (c ∷ bytes))

-- what digits say behind digits that say n
abbrev pub value : ℕ → List ℕ → ℕ
value n [] = n
value n (b ∷ bytes) = value (10 * n + (b - 48)) bytes

abbrev pub below_limit : ℕ → Option ℕ
below_limit n = if nat_lt n (2 ^ 128) then Some n else None

-- a count, which ends at what the program's numbers can say
abbrev pub counted : ℕ → ℕ
counted n = min n (2 ^ 64 - 1)

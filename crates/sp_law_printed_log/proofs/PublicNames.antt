-- Public names by their numbers may stand in quotes.
use Rattle.std.proofs.Common.{◌≡◌, ℕ, zero, suc, ◌+◌, Bool, true, false, if◌then◌else◌, [], ◌∷◌, ◌++◌, refl, arith}
use Rattle.std.specs.Prelude.{◌/◌, ◌%◌, nat_lt}
use Rattle.std.proofs.lemmas.Bool.Decides.{nat_tests}
use Rattle.sp_spec.specs.Lists.{Every}
use Rattle.sp_spec.proofs.Lists.{every_append}
use Rattle.sp_spec_text.specs.Lex.{is_constant_byte}
use Rattle.sp_spec_printed.specs.StepLines.{IsQuotable}
use Rattle.sp_spec_solved.specs.Numeral.{digits_within, numeral}
use Rattle.sp_spec_solved.specs.Naming.{public_name}

abbrev IsConstantByte : ℕ → Type 0
IsConstantByte c = is_constant_byte c ≡ true

digit_bytes : (k n : ℕ) → Every IsConstantByte (digits_within k n)
digit_bytes zero n = tt
digit_bytes (suc k) n = by_test (nat_lt n 10) refl (digit_bytes k (n / 10))
  where
    by_test : (b : Bool) → nat_lt n 10 ≡ b → Every IsConstantByte (digits_within k (n / 10))
        → Every IsConstantByte (if b then (48 + n) ∷ [] else digits_within k (n / 10) ++ (48 + n % 10) ∷ [])
    by_test true e front = (grind (arith, nat_tests), tt)
    by_test false e front = every_append IsConstantByte (digits_within k (n / 10)) ((48 + n % 10) ∷ []) front (grind (arith, nat_tests), tt)

pub public_name_quotable : (k : ℕ) → IsQuotable (public_name k)
unfolding numeral
public_name_quotable k = (refl, digit_bytes (suc k) k)

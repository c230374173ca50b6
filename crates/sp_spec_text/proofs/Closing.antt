-- What closes: a sign behind a formula by which it can't go on, and a quote behind the bytes of a constant.
use Rattle.std.proofs.Common.{◌≡◌, ℕ, ◌==◌, Bool, true, false, ◌&&◌, nat_lt, List, ◌∷◌, length, drop, cond, refl}
use Rattle.sp_spec_text.specs.Signs as s
use Rattle.sp_spec_text.specs.Token.{Lexeme, sign, constant}
use Rattle.sp_spec_text.specs.Bytes.{NoConstant}
use Rattle.sp_spec_text.specs.Lex.{is_first, before, token, no_token, is_token, close_constant}
use Rattle.sp_spec_text.specs.Formulas.{NoSign}

pub close_no_sign : (rest : List Lexeme) → NoSign (sign s.Close ∷ rest)
close_no_sign rest = record { no_and = λ r e. cc; no_or = λ r e. cc; no_arrow = λ r e. cc }

closes_token : (t : Bool) (x : Lexeme) (rest : List ℕ) → is_token (cond t (token x rest) (no_token NoConstant)) ≡ t
closes_token true x rest = refl
closes_token false x rest = refl

-- whether a constant is closed, by what follows it
pub closes : (bytes rest : List ℕ) → is_token (close_constant bytes rest) ≡ (nat_lt (length rest) (length bytes) && is_first (λ b. b == 39) rest)
closes bytes rest = closes_token (nat_lt (length rest) (length bytes) && is_first (λ b. b == 39) rest) (constant (before bytes rest)) (drop 1 rest)

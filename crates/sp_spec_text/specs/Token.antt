-- What a token is, and where it stands. Source: Tamarin manual, "Syntax description".
use Rattle.std.specs.Prelude.{ℕ, List}
use Rattle.sp_spec_text.specs.Signs.{Sign, Wide}

-- a word, a constant without its quotes, a sign, what stands between the brackets of `solve( )`, as it is written, a sign of logic that is longer than
-- a byte, or a block of text `{* .. *}`, whatever it says
pub data Lexeme : Type 0 where
  word : List ℕ → Lexeme
  constant : List ℕ → Lexeme
  sign : Sign → Lexeme
  solve : List ℕ → Lexeme
  wide : Wide → Lexeme
  block : Lexeme

-- the places of its first byte and behind its last
pub record Token : Type 0 where
  pub lexeme : Lexeme
  pub start : ℕ
  pub end : ℕ

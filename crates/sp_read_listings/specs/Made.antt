-- What is read, as the value that is made of it.
use Rattle.std.specs.Prelude.{List}
use Rattle.sp_spec_text.specs.Token.{Lexeme}

-- what R reads, as what f makes of it
pub data Made {A B : Type 0} (R : List Lexeme → A → List Lexeme → Type 0) (f : A → B) : List Lexeme → B → List Lexeme → Type 0 where
  made_of : {x : A} {tokens rest : List Lexeme} → R tokens x rest → Made R f tokens (f x) rest

-- What a token does to what a text still has to have.
use Rattle.std.specs.Prelude.{List, ◌∷◌}
use Rattle.sp_spec_text.specs.Token.{Lexeme}
use Rattle.sp_await.specs.Stack.{Good}
use Rattle.sp_place.specs.Remaining.{Remaining, EndsIn}

-- behind the token this is what is left of that
pub record Follows (old : Remaining) (x : Lexeme) (new : Remaining) : Type 0 where
  pub goes : (more : List Lexeme) → EndsIn new more → EndsIn old (x ∷ more)
  pub comes : (more : List Lexeme) → EndsIn old (x ∷ more) → EndsIn new more
  pub good : Good new.parts

-- no text goes on with the token
pub record Refuses (old : Remaining) (x : Lexeme) : Type 0 where
  pub none : (more : List Lexeme) → EndsIn old (x ∷ more) → ⊥

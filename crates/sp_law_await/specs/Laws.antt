-- The table of parts has what the grammar has.
use Rattle.std.specs.Prelude.{List, [], ◌∷◌}
use Rattle.sp_spec_text.specs.Token.{Lexeme}
use Rattle.sp_spec_text.specs.Written.{WrittenText}
use Rattle.sp_spec_text.specs.Theories.{SpellsTheory}
use Rattle.sp_await.specs.Parts.{Awaited}
use Rattle.sp_await.specs.Parts as a
use Rattle.sp_await.specs.Stack.{Good}
use Rattle.sp_law_await.specs.Language.{HasAll}

-- what a theory's parts consist of spells a theory, and what spells one consists of them
pub record TableIsGrammar : Type 0 where
  pub sound : (tokens : List Lexeme) → HasAll (a.Theory ∷ []) tokens [] → (theory : WrittenText) × SpellsTheory tokens theory
  pub complete : (tokens : List Lexeme) (theory : WrittenText) → SpellsTheory tokens theory → HasAll (a.Theory ∷ []) tokens []

-- from each list of parts that comes up a text can be ended
pub record PartsCanEnd : Type 0 where
  pub ends : (parts : List Awaited) → Good parts → (tokens : List Lexeme) × HasAll parts tokens []

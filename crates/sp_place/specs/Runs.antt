-- How far the tokens of a text go.
use Rattle.std.specs.Prelude.{◌≡◌, List, [], ◌∷◌, ◌++◌}
use Rattle.sp_spec_text.specs.Token.{Lexeme, Token}
use Rattle.sp_spec_text.specs.Lex.{lexemes}
use Rattle.sp_spec_text.specs.Written.{WrittenText}
use Rattle.sp_spec_text.specs.Theories.{SpellsTheory}
use Rattle.sp_await.specs.Parts as a
use Rattle.sp_place.specs.declared.refused.Run.{Run}
use Rattle.sp_place.specs.declared.refused.Run.TheVariants.{Wrong, Left, Whole}
use Rattle.sp_law_await.specs.Language.{HasAll}
use Rattle.sp_place.specs.Remaining.{Remaining, EndsIn}
use Rattle.sp_await.specs.Stack.{Good}
use Rattle.sp_place.specs.Refused.{Begin, IsFirstWrong}

-- the tokens before the rest are taken, and this is left of a theory
pub record Reached (tokens rest : List Token) (left : Remaining) : Type 0 where
  pub before : List Token
  pub are : tokens ≡ before ++ rest
  pub goes : (more : List Lexeme) → EndsIn left more → HasAll (a.Theory ∷ []) (lexemes before ++ more) []
  pub comes : (more : List Lexeme) → HasAll (a.Theory ∷ []) (lexemes before ++ more) [] → EndsIn left more
  pub good : Good left.parts

-- the tokens begin a theory, and are none
pub record IsLeft (tokens : List Token) : Type 0 where
  pub begins : Begin (lexemes tokens)
  pub none : (theory : WrittenText) → SpellsTheory (lexemes tokens) theory → ⊥

abbrev pub RunsTo : List Token → Run → Type 0
RunsTo tokens (Wrong place) = IsFirstWrong tokens place
RunsTo tokens Left = IsLeft tokens
RunsTo tokens Whole = (theory : WrittenText) × SpellsTheory (lexemes tokens) theory

-- Where a text is refused: at its first token that no text of the grammar has behind the tokens before it. Where there is none, that is
-- the place of the text's lexical fault, or its length.
use Rattle.std.specs.Prelude.{◌≡◌, ◌⊎◌, ℕ, List, [], ◌∷◌, ◌++◌, length}
use Rattle.sp_spec_text.specs.Bytes.{FaultKind}
use Rattle.sp_spec_text.specs.Token.{Lexeme, Token}
use Rattle.sp_spec_text.specs.Lex.{AreTokens, AreTokensBefore, lexemes}
use Rattle.sp_spec_text.specs.Written.{WrittenText}
use Rattle.sp_spec_text.specs.Theories.{SpellsTheory}
use Rattle.sp_spec_text.specs.Texts.{IsNoText}

-- these tokens begin a text of the grammar
abbrev pub Begin : List Lexeme → Type 0
Begin tokens = (more : List Lexeme) × (theory : WrittenText) × SpellsTheory (tokens ++ more) theory

-- the tokens of a text as far as it has some, and the place where they stop: its length, or that of its first fault
pub data StopsAt (text : List ℕ) : List Token → ℕ → Type 0 where
  whole : {tokens : List Token} → AreTokens (length text) text tokens → StopsAt text tokens (length text)
  broken : {tokens : List Token} {place : ℕ} {kind : FaultKind} → AreTokensBefore (length text) text tokens place kind → StopsAt text tokens place

-- the first of the tokens that no text has behind those before it stands at this place
pub record IsFirstWrong (tokens : List Token) (place : ℕ) : Type 0 where
  pub before : List Token
  pub wrong : Token
  pub behind : List Token
  pub are : tokens ≡ before ++ wrong ∷ behind
  pub begins : Begin (lexemes before)
  pub ends : Begin (lexemes (before ++ wrong ∷ [])) → ⊥
  pub place_is : place ≡ wrong.start

-- the text says no theory, and is refused at this place
pub record IsRefusedAt (text : List ℕ) (place : ℕ) : Type 0 where
  pub nothing : IsNoText text
  pub tokens : List Token
  pub stop : ℕ
  pub stops : StopsAt text tokens stop
  pub first : IsFirstWrong tokens place ⊎ (Begin (lexemes tokens) × (place ≡ stop))

-- What a text still has to have at a place of it.
use Rattle.std.specs.Prelude.{Bool, not, ◌&&◌, if◌then◌else◌, List, []}
use Rattle.sp_spec_text.specs.Token.{Lexeme}
use Rattle.sp_spec_text.specs.Plain.{plain, is_quote, plain_to_quote}
use Rattle.sp_await.specs.Parts.{Awaited}
use Rattle.sp_await.specs.Views.{parts_of}
use Rattle.sp_await.specs.declared.awaited.Awaited as rust_part
use Rattle.sp_law_await.specs.Language.{HasAll}

-- these parts, and whether a formula is open, up to whose quote signs of logic are read as the text beside them
pub record Remaining : Type 0 where
  pub in_formula : Bool
  pub parts : List Awaited

-- the tokens as they are read
abbrev pub as_read : Bool → List Lexeme → List Lexeme
as_read in_formula tokens = if in_formula then plain_to_quote tokens else tokens

-- a token as it is read
abbrev pub read_as : Bool → Lexeme → Lexeme
read_as in_formula x = if in_formula then plain x else x

-- whether a formula is open behind it
abbrev pub stays_open : Bool → Lexeme → Bool
stays_open in_formula x = in_formula && not (is_quote x)

-- the text ends with these tokens
abbrev pub EndsIn : Remaining → List Lexeme → Type 0
EndsIn r tokens = HasAll r.parts (as_read r.in_formula tokens) []

-- what the parts in memory say
abbrev pub remaining_of : List rust_part.Awaited → Bool → Remaining
remaining_of parts in_formula = record { in_formula = in_formula; parts = parts_of parts }

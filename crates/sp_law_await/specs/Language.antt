-- The tokens that parts consist of, as the table of moves says it.
use Rattle.std.specs.Prelude.{◌≡◌, List, [], ◌∷◌}
use Rattle.sp_spec_text.specs.Token.{Lexeme}
use Rattle.sp_spec_text.specs.Plain.{plain_to_quote}
use Rattle.sp_await.specs.Parts.{Awaited}
use Rattle.sp_await.specs.Table.{takes, becomes, opens, next}

mutual
  -- the tokens begin with the part, and the rest follows
  pub data Has : Awaited → List Lexeme → List Lexeme → Type 0 where
    by_token : {part : Awaited} {x : Lexeme} {parts : List Awaited} {tokens rest : List Lexeme} → next part x ≡ takes parts → HasAll parts tokens rest → Has part (x ∷ tokens) rest
    by_parts : {part : Awaited} {x : Lexeme} {parts : List Awaited} {tokens rest : List Lexeme} → next part x ≡ becomes parts → HasAll parts (x ∷ tokens) rest → Has part (x ∷ tokens) rest
    by_quote : {part : Awaited} {x : Lexeme} {parts : List Awaited} {tokens rest : List Lexeme} → next part x ≡ opens parts → HasAll parts (plain_to_quote (x ∷ tokens)) rest → Has part (x ∷ tokens) rest

  -- and with these parts, one after the other
  pub data HasAll : List Awaited → List Lexeme → List Lexeme → Type 0 where
    all_had : {rest : List Lexeme} → HasAll [] rest rest
    and_all : {part : Awaited} {parts : List Awaited} {tokens mid rest : List Lexeme} → Has part tokens mid → HasAll parts mid rest → HasAll (part ∷ parts) tokens rest

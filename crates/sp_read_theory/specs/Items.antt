-- The opening of a theory, and its items up to the end, as they are read.
use Rattle.std.specs.Prelude.{ℕ, List, ◌∷◌, codes}
use Rattle.sp_spec_text.specs.Token.{Lexeme, word}
use Rattle.sp_spec_text.specs.Names.{IsName}
use Rattle.sp_spec_text.specs.Lists.{NoReading}
use Rattle.sp_spec_text.specs.Written.{Item, WrittenText}
use Rattle.sp_spec_text.specs.Theories.{SpellsItems, SpellsTheory}
use Rattle.sp_read_listings.specs.Heuristics.{the_end}
use Rattle.sp_read_lemmas.specs.Lemmas.{IsLemma}
use Rattle.sp_read_lemmas.specs.Items.{IsDeclaration}

-- `theory`, a name, and `begin`
pub data IsOpening : List Lexeme → List ℕ → List Lexeme → Type 0 where
  opening : {w : List ℕ} {rest : List Lexeme} → IsName w → IsOpening (word (codes "theory") ∷ word w ∷ word (codes "begin") ∷ rest) w rest

-- neither a declaration nor a lemma begins there
pub record NoItem (tokens : List Lexeme) : Type 0 where
  pub no_declaration : NoReading IsDeclaration tokens
  pub no_lemma : NoReading IsLemma tokens

-- items, and the end
abbrev pub AreItemsToEnd : List Lexeme → List Item → Type 0
AreItemsToEnd tokens items = SpellsItems tokens items the_end

pub record NoItems (tokens : List Lexeme) : Type 0 where
  pub none : (items : List Item) → AreItemsToEnd tokens items → ⊥

pub record NoTheory (tokens : List Lexeme) : Type 0 where
  pub none : (theory : WrittenText) → SpellsTheory tokens theory → ⊥

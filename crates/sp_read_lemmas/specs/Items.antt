-- Declarations, lemmas and their proofs, as they are read.
use Rattle.std.specs.Prelude.{ℕ, List, [], ◌∷◌, Option, Some, None}
use Rattle.sp_spec_text.specs.Token.{Lexeme, Token}
use Rattle.sp_spec_text.specs.Lex.{lexemes}
use Rattle.sp_spec.specs.Theory.{Lemma}
use Rattle.sp_spec.specs.Written.{WrittenRule}
use Rattle.sp_spec_text.specs.Lists.{NoReading}
use Rattle.sp_spec_text.specs.Bindings.{Binding}
use Rattle.sp_spec_text.specs.Written.{WrittenProof, Attribute, Item, block_item, rule_item, restriction_item, lemma_item}
use Rattle.sp_spec_text.specs.Spans.{Span}
use Rattle.sp_spec_text.specs.Proofs.{SpellsProof}
use Rattle.sp_spec_text.specs.Theories.{SpellsRestriction, SpellsLemma, SpellsProofPart}
use Rattle.sp_spec_text.specs.Spans.{IsBehind, EndsAt, EndsWith}
use Rattle.sp_read_atoms.specs.Atoms.{OrElse}
use Rattle.sp_read_listings.specs.Made.{Made}
use Rattle.sp_read_listings.specs.Listings.{IsBlock, IsListing}
use Rattle.sp_read_rules.specs.Rules.{IsRule}

-- ---- declarations

abbrev pub IsBlockItem : List Lexeme → Item → List Lexeme → Type 0
IsBlockItem = Made IsBlock block_item

abbrev pub rule_from : List Binding × WrittenRule → Item
rule_from x = rule_item x.0 x.1

abbrev pub IsRuleItem : List Lexeme → Item → List Lexeme → Type 0
IsRuleItem = Made IsRule rule_from

abbrev pub IsRestrictionItem : List Lexeme → Item → List Lexeme → Type 0
IsRestrictionItem = Made SpellsRestriction restriction_item

-- a block of text, a rule or a restriction
abbrev pub IsStatement : List Lexeme → Item → List Lexeme → Type 0
IsStatement = OrElse IsBlockItem (OrElse IsRuleItem IsRestrictionItem)

-- an item without a proof
abbrev pub IsDeclaration : List Lexeme → Item → List Lexeme → Type 0
IsDeclaration = OrElse IsListing IsStatement

-- ---- lemmas with their proofs

-- no proof stands there: none begins there, or a block of text does
pub data HasNoProof : List Lexeme → Type 0 where
  no_start : {tokens : List Lexeme} → NoReading SpellsProof tokens → HasNoProof tokens
  by_block : {w : List ℕ} {tokens rest : List Lexeme} → IsBlock tokens w rest → HasNoProof tokens

-- a proof stands there if any begins there and no block of text does
abbrev pub IsGreedy : List Lexeme → Option WrittenProof → Type 0
IsGreedy tokens None = HasNoProof tokens
IsGreedy tokens (Some p) = NoReading IsBlock tokens

-- a proof if one begins there, and the span that begins behind the token before
pub record ReadsProofPart (behind : List Token) (p : Option WrittenProof) (span : Span) (rest : List Token) : Type 0 where
  pub spells : SpellsProofPart (lexemes behind) p (lexemes rest)
  pub greedy : IsGreedy (lexemes behind) p
  pub ends : EndsAt behind rest p span

-- a declaration, or a lemma with its proof if one begins behind it, and the span of that
pub data ReadsItem : List Token → Item → List Span → List Token → Type 0 where
  a_declaration : {x : Item} {tokens rest : List Token} → IsDeclaration (lexemes tokens) x (lexemes rest) → EndsWith tokens rest → ReadsItem tokens x [] rest
  a_lemma : {l : Lemma} {each : List Attribute} {p : Option WrittenProof} {span : Span} {tokens behind rest : List Token}
      → SpellsLemma (lexemes tokens) l each (lexemes behind) → IsBehind tokens behind span.from → ReadsProofPart behind p span rest → ReadsItem tokens (lemma_item l each p) (span ∷ []) rest

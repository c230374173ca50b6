-- Where the proofs of a text's lemmas stand.
use Rattle.std.specs.Prelude.{◌≡◌, ℕ, ◌+◌, ◌≤◌, Bool, false, ◌==◌, if◌then◌else◌, List, [], ◌∷◌, ◌++◌, Option, Some, None, drop}
use Rattle.sp_spec_text.specs.Token.{Token}
use Rattle.sp_spec_text.specs.Lex.{lexemes}
use Rattle.sp_spec.specs.Theory.{Lemma}
use Rattle.sp_spec_text.specs.Written.{WrittenProof, Attribute, Item, lemma_item}
use Rattle.sp_spec_text.specs.Theories.{SpellsDeclaration, SpellsLemma, SpellsProofPart}

-- from behind the closing quote of a lemma's formula to behind its proof; the same place where it has none
pub record Span : Type 0 where
  pub from : ℕ
  pub to : ℕ

-- the place behind the last of these tokens before the others
pub record IsBehind (tokens others : List Token) (place : ℕ) : Type 0 where
  pub before : List Token
  pub last : Token
  pub are : tokens ≡ before ++ last ∷ others
  pub place_is : place ≡ last.end

-- from behind the lemma's closing quote to behind its proof; where it has none, that is the same place
abbrev pub EndsAt : List Token → List Token → Option WrittenProof → Span → Type 0
EndsAt behind others None span = (others ≡ behind) × (span.to ≡ span.from)
EndsAt behind others (Some p) span = IsBehind behind others span.to

-- the tokens end with the others
abbrev pub EndsWith : List Token → List Token → Type 0
EndsWith tokens others = (before : List Token) × (tokens ≡ before ++ others)

-- where the tokens spell these items, one span for each lemma
pub data AreSpans : List Token → List Item → List Span → Type 0 where
  no_span : {tokens : List Token} → AreSpans tokens [] []
  past_declaration : {x : Item} {items : List Item} {spans : List Span} {tokens mid : List Token} → SpellsDeclaration (lexemes tokens) x (lexemes mid) → EndsWith tokens mid → AreSpans mid items spans → AreSpans tokens (x ∷ items) spans
  past_lemma : {l : Lemma} {each : List Attribute} {p : Option WrittenProof} {items : List Item} {span : Span} {spans : List Span} {tokens behind mid : List Token}
      → SpellsLemma (lexemes tokens) l each (lexemes behind) → IsBehind tokens behind span.from
      → SpellsProofPart (lexemes behind) p (lexemes mid) → EndsAt behind mid p span
      → AreSpans mid items spans → AreSpans tokens (lemma_item l each p ∷ items) (span ∷ spans)

-- ---- the text behind a proof

abbrev pub is_feed : List ℕ → Bool
is_feed [] = false
is_feed (b ∷ bytes) = b == 10

-- where the text goes on when the proof is taken out, with a line feed directly behind it
abbrev pub goes_on : List ℕ → Span → ℕ
goes_on text span = if span.to == span.from then span.to else if is_feed (drop span.to text) then span.to + 1 else span.to

-- the spans stand one behind the other, from this number on, and none reaches beyond the end
abbrev pub Rise : List ℕ → ℕ → List Span → ℕ → Type 0
Rise text low [] end = low ≤ end
Rise text low (span ∷ spans) end = (low ≤ span.from) × (span.from ≤ span.to) × Rise text (goes_on text span) spans end

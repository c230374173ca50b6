-- The parts of a lemma, and of a restriction, as they are read.
use Rattle.std.specs.Prelude.{◌≡◌, ℕ, true, List, [], ◌∷◌, codes}
use Rattle.sp_spec_text.specs.Signs as s
use Rattle.sp_spec_text.specs.Token.{Lexeme, word, sign}
use Rattle.sp_spec.specs.Formula.{Formula}
use Rattle.sp_spec.specs.Theory.{TraceKind, Lemma}
use Rattle.sp_spec_text.specs.Names.{IsName}
use Rattle.sp_spec_text.specs.Attributes.{attribute_of, is_restriction}
use Rattle.sp_spec_text.specs.Lists.{IsNotFirst, AreParts}
use Rattle.sp_spec_text.specs.Written.{Attribute, hiding, ranked_by}
use Rattle.sp_spec_text.specs.Theories.{SpellsQuoted, SpellsKind, SpellsLemma}
use Rattle.sp_read_atoms.specs.Atoms.{OrElse}
use Rattle.sp_read_listings.specs.Made.{Made}

-- ---- attributes

-- the keyword, `=` and a name
pub data IsValued (keyword : List ℕ) : List Lexeme → List ℕ → List Lexeme → Type 0 where
  valued : {w : List ℕ} {rest : List Lexeme} → IsName w → IsValued keyword (word keyword ∷ sign s.Equals ∷ word w ∷ rest) w rest

-- a name, and no `=`
pub data IsLoneName : List Lexeme → List ℕ → List Lexeme → Type 0 where
  lone_name : {w : List ℕ} {rest : List Lexeme} → IsName w → IsNotFirst (sign s.Equals) rest → IsLoneName (word w ∷ rest) w rest

abbrev pub IsHiding : List Lexeme → Attribute → List Lexeme → Type 0
IsHiding = Made (IsValued (codes "hide_lemma")) hiding

abbrev pub IsRanking : List Lexeme → Attribute → List Lexeme → Type 0
IsRanking = Made (IsValued (codes "heuristic")) ranked_by

abbrev pub IsWordAttribute : List Lexeme → Attribute → List Lexeme → Type 0
IsWordAttribute = Made IsLoneName attribute_of

abbrev pub IsLemmaAttribute : List Lexeme → Attribute → List Lexeme → Type 0
IsLemmaAttribute = OrElse IsHiding (OrElse IsRanking IsWordAttribute)

-- attributes in their brackets, or no bracket
pub data AreLemmaAttributes : List Lexeme → List Attribute → List Lexeme → Type 0 where
  none_said : {rest : List Lexeme} → IsNotFirst (sign s.OpenList) rest → AreLemmaAttributes rest [] rest
  some_said : {each : List Attribute} {tokens rest : List Lexeme} → AreParts IsLemmaAttribute s.Comma s.CloseList tokens each rest → AreLemmaAttributes (sign s.OpenList ∷ tokens) each rest

-- ---- heads

-- `lemma`, a name, attributes and a colon
pub data IsLemmaHead : List Lexeme → List ℕ × List Attribute → List Lexeme → Type 0 where
  lemma_head : {w : List ℕ} {each : List Attribute} {tokens rest : List Lexeme} → IsName w → AreLemmaAttributes tokens each (sign s.Colon ∷ rest) → IsLemmaHead (word (codes "lemma") ∷ word w ∷ tokens) (w, each) rest

-- a word that begins restrictions, a name, a colon and a double quote
pub data IsRestrictionHead : List Lexeme → List ℕ → List Lexeme → Type 0 where
  restriction_head : {k w : List ℕ} {rest : List Lexeme} → is_restriction k ≡ true → IsName w → IsRestrictionHead (word k ∷ word w ∷ sign s.Colon ∷ sign s.Quote ∷ rest) w rest

-- a word, a dash, another word and a double quote
abbrev pub Dashed : List ℕ → List ℕ → List Lexeme → List Lexeme → Type 0
Dashed a b tokens rest = tokens ≡ word a ∷ sign s.Dash ∷ word b ∷ sign s.Quote ∷ rest

-- they don't stand first
pub record NotDashed (a b : List ℕ) (tokens : List Lexeme) : Type 0 where
  pub none : (rest : List Lexeme) → Dashed a b tokens rest → ⊥

-- the kind of a lemma, and the double quote that opens its formula
abbrev pub IsKind : List Lexeme → TraceKind → List Lexeme → Type 0
IsKind tokens kind rest = SpellsKind tokens kind (sign s.Quote ∷ rest)

-- a lemma, with its attributes
abbrev pub IsLemma : List Lexeme → Lemma × List Attribute → List Lexeme → Type 0
IsLemma tokens x rest = SpellsLemma tokens x.0 x.1 rest

-- the kind of a lemma, and its formula in double quotes
pub data IsClaim : List Lexeme → TraceKind × Formula → List Lexeme → Type 0 where
  claim : {kind : TraceKind} {f : Formula} {tokens body rest : List Lexeme} → IsKind tokens kind body → SpellsQuoted body f rest → IsClaim tokens (kind, f) rest

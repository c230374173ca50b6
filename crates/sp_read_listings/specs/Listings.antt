-- What a theory lists behind a keyword and a colon, and blocks of text, as a reader from the left takes them: each part reaches as far as it can.
use Rattle.std.specs.Prelude.{◌≡◌, ℕ, Bool, true, false, List, ◌∷◌, codes}
use Rattle.sp_spec_text.specs.Signs.{Sign}
use Rattle.sp_spec_text.specs.Signs as s
use Rattle.sp_spec_text.specs.Token.{Lexeme, word, sign, block}
use Rattle.sp_spec.specs.Term.{Term}
use Rattle.sp_spec.specs.Signature.{Symbol}
use Rattle.sp_spec.specs.Formula.{Written}
use Rattle.sp_spec_text.specs.Names.{IsName, is_one_so}
use Rattle.sp_spec_text.specs.Numerals.{is_numeral, value, counted}
use Rattle.sp_spec_text.specs.Lists.{IsNotFirst, AreParts, AreListed}
use Rattle.sp_spec_text.specs.Written.{Item, builtins_item, functions_item, equations_item, heuristic_item}
use Rattle.sp_spec_text.specs.Theories.{SpellsBuiltin, SpellsAttribute}
use Rattle.sp_read_parts.specs.Parts.{IsTerm}
use Rattle.sp_read_atoms.specs.Atoms.{OrElse}
use Rattle.sp_read_listings.specs.Made.{Made}
use Rattle.sp_read_listings.specs.Heuristics.{AreWords}

-- a part, and this sign, by which it could go on, does not follow
pub record Reaches {A : Type 0} (R : List Lexeme → A → List Lexeme → Type 0) (x : Sign) (tokens : List Lexeme) (part : A) (rest : List Lexeme) : Type 0 where
  pub spells : R tokens part rest
  pub ended : IsNotFirst (sign x) rest

-- names joined by `-`, all of them
abbrev pub IsBuiltin : List Lexeme → List ℕ → List Lexeme → Type 0
IsBuiltin = Reaches SpellsBuiltin s.Dash

-- name `/` number
pub data IsArity : List Lexeme → List ℕ × ℕ → List Lexeme → Type 0 where
  arity : {w k : List ℕ} {rest : List Lexeme} → IsName w → is_numeral k ≡ true → IsArity (word w ∷ sign s.Slash ∷ word k ∷ rest) (w, counted (value 0 k)) rest

-- attributes and `]`; whether one of them is `private`
pub data AreAttributes : List Lexeme → Bool → List Lexeme → Type 0 where
  attributes : {each : List Bool} {tokens rest : List Lexeme} → AreParts SpellsAttribute s.Comma s.CloseList tokens each rest → AreAttributes tokens (is_one_so each) rest

-- attributes in their brackets, or no bracket
pub data IsPrivacy : List Lexeme → Bool → List Lexeme → Type 0 where
  unsaid : {rest : List Lexeme} → IsNotFirst (sign s.OpenList) rest → IsPrivacy rest false rest
  said_so : {private : Bool} {tokens rest : List Lexeme} → AreAttributes tokens private rest → IsPrivacy (sign s.OpenList ∷ tokens) private rest

-- a symbol with its arity, and whether it is private
pub data IsFunction : List Lexeme → Symbol → List Lexeme → Type 0 where
  function : {x : List ℕ × ℕ} {private : Bool} {tokens mid rest : List Lexeme} → IsArity tokens x mid → IsPrivacy mid private rest → IsFunction tokens (record { name = x.0; arity = x.1; private = private }) rest

-- term `=` term
pub data IsEquation : List Lexeme → Term Written × Term Written → List Lexeme → Type 0 where
  equation : {x y : Term Written} {tokens mid rest : List Lexeme} → IsTerm 0 tokens x (sign s.Equals ∷ mid) → IsTerm 0 mid y rest → IsEquation tokens (x, y) rest

-- one or more with commas, all of them
abbrev pub AreAll : {A : Type 0} → (List Lexeme → A → List Lexeme → Type 0) → List Lexeme → List A → List Lexeme → Type 0
AreAll R = Reaches (AreListed R) s.Comma

-- a keyword and a colon
abbrev pub Headed : List ℕ → List Lexeme → List Lexeme → Type 0
Headed keyword tokens rest = tokens ≡ word keyword ∷ sign s.Colon ∷ rest

-- they don't stand first
pub record NotHeaded (keyword : List ℕ) (tokens : List Lexeme) : Type 0 where
  pub none : (rest : List Lexeme) → Headed keyword tokens rest → ⊥

-- what R reads behind a keyword and a colon
pub data Under {A : Type 0} (keyword : List ℕ) (R : List Lexeme → A → List Lexeme → Type 0) : List Lexeme → A → List Lexeme → Type 0 where
  under_colon : {x : A} {tokens rest : List Lexeme} → R tokens x rest → Under keyword R (word keyword ∷ sign s.Colon ∷ tokens) x rest

abbrev pub IsBuiltins : List Lexeme → Item → List Lexeme → Type 0
IsBuiltins = Made (Under (codes "builtins") (AreAll IsBuiltin)) builtins_item

abbrev pub AreFunctions : List Lexeme → Item → List Lexeme → Type 0
AreFunctions = Made (Under (codes "functions") (AreAll IsFunction)) functions_item

abbrev pub AreEquations : List Lexeme → Item → List Lexeme → Type 0
AreEquations = Made (Under (codes "equations") (AreAll IsEquation)) equations_item

abbrev pub IsHeuristic : List Lexeme → Item → List Lexeme → Type 0
IsHeuristic = Made (Under (codes "heuristic") AreWords) heuristic_item

-- behind a keyword and a colon
abbrev pub IsListing : List Lexeme → Item → List Lexeme → Type 0
IsListing = OrElse IsBuiltins (OrElse AreFunctions (OrElse AreEquations IsHeuristic))

-- a name, and a block of text
pub data IsBlock : List Lexeme → List ℕ → List Lexeme → Type 0 where
  text_block : {w : List ℕ} {rest : List Lexeme} → IsName w → IsBlock (word w ∷ block ∷ rest) w rest

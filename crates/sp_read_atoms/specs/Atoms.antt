-- Formulas without formulas in them, as a reader from the left takes them: of several ways to begin the first that can be read is taken.
use Rattle.std.specs.Prelude.{ℕ, List, ◌∷◌, codes}
use Rattle.sp_spec_text.specs.Signs.{Sign}
use Rattle.sp_spec_text.specs.Signs as s
use Rattle.sp_spec_text.specs.Token.{Lexeme, word, sign}
use Rattle.sp_spec.specs.Rule.{Fact}
use Rattle.sp_spec.specs.Formula.{Written, Formula, truth, falsity, happens, equals, precedes}
use Rattle.sp_spec_text.specs.Lists.{NoReading}
use Rattle.sp_spec_text.specs.Shapes.{action_of}
use Rattle.sp_read_parts.specs.Parts.{IsVariable, IsTerm, IsFact}

-- two sides, and this sign between them
pub data Infix {A B C : Type 0} (P : List Lexeme → A → List Lexeme → Type 0) (x : Sign) (Q : List Lexeme → B → List Lexeme → Type 0) (f : A → B → C) : List Lexeme → C → List Lexeme → Type 0 where
  two_sides : {a : A} {b : B} {tokens mid rest : List Lexeme} → P tokens a (sign x ∷ mid) → Q mid b rest → Infix P x Q f tokens (f a b) rest

-- the first of two ways, or else the second
pub data OrElse {A : Type 0} (P Q : List Lexeme → A → List Lexeme → Type 0) : List Lexeme → A → List Lexeme → Type 0 where
  first : {x : A} {tokens rest : List Lexeme} → P tokens x rest → OrElse P Q tokens x rest
  second : {x : A} {tokens rest : List Lexeme} → NoReading P tokens → Q tokens x rest → OrElse P Q tokens x rest

-- term `=` term
abbrev pub IsEquality : ℕ → List Lexeme → Formula → List Lexeme → Type 0
IsEquality n = Infix (IsTerm n) s.Equals (IsTerm n) equals

-- var `<` var
abbrev pub IsOrder : List Lexeme → Formula → List Lexeme → Type 0
IsOrder = Infix IsVariable s.Less IsVariable precedes

abbrev pub happening_of : Fact Written → Written → Formula
happening_of f v = happens (action_of f) v

-- fact `@` var
abbrev pub IsAction : ℕ → List Lexeme → Formula → List Lexeme → Type 0
IsAction n = Infix (IsFact n) s.At IsVariable happening_of

-- `T` ; `F`
pub data IsConstant : List Lexeme → Formula → List Lexeme → Type 0 where
  true_word : {rest : List Lexeme} → IsConstant (word (codes "T") ∷ rest) truth rest
  false_word : {rest : List Lexeme} → IsConstant (word (codes "F") ∷ rest) falsity rest

-- a formula without formulas in it
abbrev pub IsAtom : ℕ → List Lexeme → Formula → List Lexeme → Type 0
IsAtom n = OrElse (IsEquality n) (OrElse IsOrder (OrElse (IsAction n) IsConstant))

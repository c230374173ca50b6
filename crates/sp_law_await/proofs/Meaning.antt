-- What the parts of a text are in the grammar, whatever they say.
use Rattle.std.proofs.Common.{◌≡◌, ℕ, zero, suc, ◌+◌, ◌<◌, ◌⊎◌, Bool, true, not, is_some, List, ◌∷◌, Some, bytes_eq}
use Rattle.sp_spec_text.specs.Signs.{Sign}
use Rattle.sp_spec_text.specs.Signs as s
use Rattle.sp_spec_text.specs.Token.{Lexeme, word, sign}
use Rattle.sp_spec.specs.Term.{Term, Terms}
use Rattle.sp_spec.specs.Formula.{Mark, Written, Formula}
use Rattle.sp_spec_text.specs.Names.{is_reserved, mark_of}
use Rattle.sp_spec_text.specs.Lists.{IsNotFirst, AreParts}
use Rattle.sp_spec_text.specs.Formulas.{SpellsVariable, SpellsTerm, SpellsTuple, SpellsArguments, SpellsTerms, SpellsAnnotations, SpellsBinders, SpellsNegation, NoSign}
use Rattle.sp_await.specs.Table.{deep}

-- the tokens begin with something that R spells
abbrev pub Spelled : {A : Type 0} → (List Lexeme → A → List Lexeme → Type 0) → List Lexeme → List Lexeme → Type 0
Spelled {A} R tokens rest = (x : A) × R tokens x rest

pub data OneSign (x : Sign) : List Lexeme → List Lexeme → Type 0 where
  one_sign : {rest : List Lexeme} → OneSign x (sign x ∷ rest) rest

-- a word that passes the test
pub data OneWord (p : List ℕ → Bool) : List Lexeme → List Lexeme → Type 0 where
  one_word : {w : List ℕ} {rest : List Lexeme} → p w ≡ true → OneWord p (word w ∷ rest) rest

abbrev pub OneName : List Lexeme → List Lexeme → Type 0
OneName = OneWord (λ w. not (is_reserved w))

abbrev pub OneSort : List Lexeme → List Lexeme → Type 0
OneSort = OneWord (λ w. is_some (mark_of w))

abbrev pub ThisWord : List ℕ → List Lexeme → List Lexeme → Type 0
ThisWord v = OneWord (λ w. bytes_eq w v)

-- a sign, and this behind it
pub data Led (x : Sign) (R : List Lexeme → List Lexeme → Type 0) : List Lexeme → List Lexeme → Type 0 where
  led : {tokens rest : List Lexeme} → R tokens rest → Led x R (sign x ∷ tokens) rest

pub data SortPart : List Lexeme → List Lexeme → Type 0 where
  unsorted : {rest : List Lexeme} → SortPart rest rest
  sorted : {tokens rest : List Lexeme} → OneSort tokens rest → SortPart (sign s.Colon ∷ tokens) rest

-- behind a part of a list
pub data AfterPart {A : Type 0} (R : List Lexeme → A → List Lexeme → Type 0) (close : Sign) : List Lexeme → List Lexeme → Type 0 where
  no_part : {rest : List Lexeme} → AfterPart R close (sign close ∷ rest) rest
  a_part : {xs : List A} {tokens rest : List Lexeme} → AreParts R s.Comma close tokens xs rest → AfterPart R close (sign s.Comma ∷ tokens) rest

-- behind a name in a term
pub data AppliedOf (n : ℕ) : List Lexeme → List Lexeme → Type 0 where
  with_arguments : {xs : Terms Written} {tokens rest : List Lexeme} → n < 128 → SpellsArguments (n + 1) tokens xs rest → AppliedOf n (sign s.Open ∷ tokens) rest
  with_braces : {x y : Term Written} {tokens mid rest : List Lexeme} → n < 128 → SpellsTuple (n + 1) s.CloseBrace tokens x mid → SpellsTerm (n + 1) mid y rest → AppliedOf n (sign s.OpenBrace ∷ tokens) rest
  as_variable : {tokens rest : List Lexeme} → SortPart tokens rest → AppliedOf n tokens rest

-- behind a term of a tuple
pub data TupleBehind (n : ℕ) (close : Sign) : List Lexeme → List Lexeme → Type 0 where
  no_term : {rest : List Lexeme} → TupleBehind n close (sign close ∷ rest) rest
  a_tuple : {x : Term Written} {tokens rest : List Lexeme} → n < 128 → SpellsTuple (n + 1) close tokens x rest → TupleBehind n close (sign s.Comma ∷ tokens) rest

-- behind an argument
pub data ArgumentsBehind (n : ℕ) : List Lexeme → List Lexeme → Type 0 where
  no_other : {rest : List Lexeme} → ArgumentsBehind n (sign s.Close ∷ rest) rest
  others : {xs : Terms Written} {tokens rest : List Lexeme} → SpellsTerms n tokens xs rest → ArgumentsBehind n (sign s.Comma ∷ tokens) rest

-- behind the name of a fact
pub data OpenedArguments (n : ℕ) : List Lexeme → List Lexeme → Type 0 where
  opened : {args : Terms Written} {tokens mid rest : List Lexeme} → n < 128 → SpellsArguments (n + 1) tokens args mid → SpellsAnnotations mid rest → OpenedArguments n (sign s.Open ∷ tokens) rest

-- behind a variable of a quantifier
pub data AfterBinder : List Lexeme → List Lexeme → Type 0 where
  no_binder : {rest : List Lexeme} → AfterBinder (sign s.Dot ∷ rest) rest
  a_binder : {vs : List Written} {tokens rest : List Lexeme} → SpellsBinders tokens vs rest → AfterBinder tokens rest

-- behind a negation, up to the end of the implication
pub data MoreOf : ℕ → List Lexeme → List Lexeme → Type 0 where
  no_more : {n : ℕ} {rest : List Lexeme} → NoSign rest → MoreOf n rest rest
  more_and : {n : ℕ} {f : Formula} {tokens mid rest : List Lexeme} → SpellsNegation n tokens f mid → MoreOf n mid rest → MoreOf n (sign s.And ∷ tokens) rest
  more_or : {n : ℕ} {f : Formula} {tokens mid rest : List Lexeme} → SpellsNegation n tokens f mid → MoreOf n mid rest → MoreOf n (sign s.Or ∷ tokens) rest
  more_then : {n : ℕ} {f : Formula} {tokens mid rest : List Lexeme} → n < 128 → SpellsNegation (n + 1) tokens f mid → MoreOf (n + 1) mid rest → MoreOf n (sign s.Implies ∷ tokens) rest

-- behind an implication
pub data TwiceOf : ℕ → List Lexeme → List Lexeme → Type 0 where
  once : {n : ℕ} {rest : List Lexeme} → IsNotFirst (sign s.Iff) rest → TwiceOf n rest rest
  twice : {n : ℕ} {f : Formula} {tokens mid rest : List Lexeme} → SpellsNegation n tokens f mid → MoreOf n mid rest → TwiceOf n (sign s.Iff ∷ tokens) rest

pub record OneClosed (m : ℕ) (R : List Lexeme → List Lexeme → Type 0) (tokens rest : List Lexeme) : Type 0 where
  pub mid : List Lexeme
  pub behind : List Lexeme
  pub more : MoreOf m tokens mid
  pub twice : TwiceOf m mid (sign s.Close ∷ behind)
  pub others : R behind rest

-- behind a unit, up to the last of k brackets
abbrev pub ClosedOf : ℕ → ℕ → List Lexeme → List Lexeme → Type 0
ClosedOf n zero tokens rest = tokens ≡ rest
ClosedOf n (suc k) tokens rest = OneClosed (deep n k + 1) (ClosedOf n k) tokens rest

-- `=`, the other side, and the brackets
pub data Equated (n k : ℕ) : List Lexeme → List Lexeme → Type 0 where
  equated : {x : Term Written} {tokens mid rest : List Lexeme} → SpellsTerm (deep n k) tokens x mid → ClosedOf n k mid rest → Equated n k (sign s.Equals ∷ tokens) rest

-- behind a term in k brackets
abbrev pub SideOf : ℕ → ℕ → List Lexeme → List Lexeme → Type 0
SideOf n zero tokens rest = Equated n zero tokens rest
SideOf n (suc k) tokens rest = Equated n (suc k) tokens rest ⊎ Led s.Close (SideOf n k) tokens rest

-- behind a variable
pub data OrderOf (n k : ℕ) : List Lexeme → List Lexeme → Type 0 where
  less : {v : Written} {tokens mid rest : List Lexeme} → SpellsVariable tokens v mid → ClosedOf n k mid rest → OrderOf n k (sign s.Less ∷ tokens) rest
  as_term : {tokens rest : List Lexeme} → SideOf n k tokens rest → OrderOf n k tokens rest

-- behind a name
pub data BareOf (n k : ℕ) : List Lexeme → List Lexeme → Type 0 where
  of_sort : {m : Mark} {w : List ℕ} {tokens rest : List Lexeme} → mark_of w ≡ Some m → OrderOf n k tokens rest → BareOf n k (sign s.Colon ∷ word w ∷ tokens) rest
  of_arguments : {xs : Terms Written} {tokens mid rest : List Lexeme} → deep n k < 128 → SpellsArguments (deep n k + 1) tokens xs mid → SideOf n k mid rest → BareOf n k (sign s.Open ∷ tokens) rest
  of_braces : {x y : Term Written} {tokens mid behind rest : List Lexeme} → deep n k < 128 → SpellsTuple (deep n k + 1) s.CloseBrace tokens x mid → SpellsTerm (deep n k + 1) mid y behind → SideOf n k behind rest → BareOf n k (sign s.OpenBrace ∷ tokens) rest
  of_none : {tokens rest : List Lexeme} → OrderOf n k tokens rest → BareOf n k tokens rest

-- behind what may be a fact or a term
pub data ShownOf (n k : ℕ) : List Lexeme → List Lexeme → Type 0 where
  at_time : {v : Written} {tokens mid behind rest : List Lexeme} → SpellsAnnotations tokens (sign s.At ∷ mid) → SpellsVariable mid v behind → ClosedOf n k behind rest → ShownOf n k tokens rest
  as_side : {tokens rest : List Lexeme} → SideOf n k tokens rest → ShownOf n k tokens rest

-- behind a name that may name a fact
pub data NamedOf (n k : ℕ) : List Lexeme → List Lexeme → Type 0 where
  as_fact : {args : Terms Written} {v : Written} {tokens notes mid behind rest : List Lexeme} → deep n k < 128 → SpellsArguments (deep n k + 1) tokens args notes → SpellsAnnotations notes (sign s.At ∷ mid) → SpellsVariable mid v behind → ClosedOf n k behind rest
      → NamedOf n k (sign s.Open ∷ tokens) rest
  as_name : {tokens rest : List Lexeme} → BareOf n k tokens rest → NamedOf n k tokens rest

-- Behind k brackets: a formula of this kind, or a term.
pub data StartOf (R : ℕ → List Lexeme → Formula → List Lexeme → Type 0) (n k : ℕ) : List Lexeme → List Lexeme → Type 0 where
  formula_first : {f : Formula} {tokens mid rest : List Lexeme} → R (deep n k) tokens f mid → ClosedOf n k mid rest → StartOf R n k tokens rest
  term_first : {x : Term Written} {tokens mid rest : List Lexeme} → SpellsTerm (deep n k) tokens x mid → SideOf n k mid rest → StartOf R n k tokens rest

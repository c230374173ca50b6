-- The parts of theories as they are read: with these tokens before them, and no others, each is read in one way.
-- `R tokens x rest` says that the tokens begin with x, which R reads, and that the rest follows. Source: Tamarin manual, "Syntax description".
use Rattle.std.specs.Prelude.{◌≡◌, ℕ, ◌+◌, ◌<◌, Bool, true, false, List, [], ◌∷◌, Some}
use Rattle.sp_spec_text.specs.Signs.{Sign}
use Rattle.sp_spec_text.specs.Signs as s
use Rattle.sp_spec_text.specs.Token.{Lexeme, word, constant, sign}
use Rattle.sp_spec.specs.Term.{Term, var, app, Terms, none, more}
use Rattle.sp_spec.specs.Term as t
use Rattle.sp_spec.specs.Signature.{pair}
use Rattle.sp_spec.specs.Rule.{Fact}
use Rattle.sp_spec.specs.Formula.{Mark, bare, Written}
use Rattle.sp_spec_text.specs.Names.{IsName, names_fact, mark_of, mark_at, is_annotation}
use Rattle.sp_spec_text.specs.Lists.{IsNotFirst}
use Rattle.sp_spec_text.specs.Shapes.{written, fact}

pub data IsNameFirst : List Lexeme → List ℕ → List Lexeme → Type 0 where
  name : {w : List ℕ} {rest : List Lexeme} → IsName w → IsNameFirst (word w ∷ rest) w rest

pub data IsSort : List Lexeme → Mark → List Lexeme → Type 0 where
  sort : {k : List ℕ} {m : Mark} {rest : List Lexeme} → mark_of k ≡ Some m → IsSort (word k ∷ rest) m rest

-- a variable; behind a bare name there is no colon
pub data IsVariable : List Lexeme → Written → List Lexeme → Type 0 where
  marked : {x : Sign} {m : Mark} {w : List ℕ} {tokens rest : List Lexeme} → mark_at x ≡ Some m → IsNameFirst tokens w rest → IsVariable (sign x ∷ tokens) (written w m) rest
  sorted : {w : List ℕ} {m : Mark} {tokens behind rest : List Lexeme} → IsNameFirst tokens w (sign s.Colon ∷ behind) → IsSort behind m rest → IsVariable tokens (written w m) rest
  unmarked : {w : List ℕ} {tokens rest : List Lexeme} → IsNameFirst tokens w rest → IsNotFirst (sign s.Colon) rest → IsVariable tokens (written w bare) rest

-- no constant stands first
abbrev pub IsNoConstant : List Lexeme → Type 0
IsNoConstant tokens = (c : List ℕ) (rest : List Lexeme) → tokens ≡ constant c ∷ rest → ⊥

-- no name stands first with a bracket or a brace behind it
pub record IsNoApplication (tokens : List Lexeme) : Type 0 where
  pub no_bracket : (w : List ℕ) (rest : List Lexeme) → tokens ≡ word w ∷ sign s.Open ∷ rest → ⊥
  pub no_brace : (w : List ℕ) (rest : List Lexeme) → tokens ≡ word w ∷ sign s.OpenBrace ∷ rest → ⊥

mutual
  -- a term at this nesting, which counts the brackets around it
  pub data IsTerm : ℕ → List Lexeme → Term Written → List Lexeme → Type 0 where
    fixed : {n : ℕ} {c : List ℕ} {rest : List Lexeme} → IsTerm n (constant c ∷ rest) (t.constant c) rest
    variable : {n : ℕ} {v : Written} {tokens rest : List Lexeme} → IsNoApplication tokens → IsVariable tokens v rest → IsTerm n tokens (var v) rest
    brackets : {n : ℕ} {x : Term Written} {tokens rest : List Lexeme} → n < 128 → IsTerm (n + 1) tokens x (sign s.Close ∷ rest) → IsTerm n (sign s.Open ∷ tokens) x rest
    tuple : {n : ℕ} {x : Term Written} {tokens rest : List Lexeme} → n < 128 → IsTuple (n + 1) s.Greater tokens x rest → IsTerm n (sign s.Less ∷ tokens) x rest
    application : {n : ℕ} {w : List ℕ} {xs : Terms Written} {tokens rest : List Lexeme} → IsName w → AreArguments n tokens xs rest → IsTerm n (word w ∷ tokens) (app w xs) rest
    braced : {n : ℕ} {w : List ℕ} {x y : Term Written} {tokens mid rest : List Lexeme} → IsName w → n < 128 → IsTuple (n + 1) s.CloseBrace tokens x mid → IsTerm (n + 1) mid y rest
        → IsTerm n (word w ∷ sign s.OpenBrace ∷ tokens) (app w (more x (more y none))) rest

  -- a tuple behind what opens it, up to what closes it
  pub data IsTuple : ℕ → Sign → List Lexeme → Term Written → List Lexeme → Type 0 where
    last_part : {n : ℕ} {close : Sign} {x : Term Written} {tokens rest : List Lexeme} → IsTerm n tokens x (sign close ∷ rest) → IsTuple n close tokens x rest
    next_part : {n : ℕ} {close : Sign} {x y : Term Written} {tokens mid rest : List Lexeme} → IsTerm n tokens x (sign s.Comma ∷ mid) → n < 128 → IsTuple (n + 1) close mid y rest → IsTuple n close tokens (pair x y) rest

  -- behind the name of a symbol or of a fact
  pub data AreArguments : ℕ → List Lexeme → Terms Written → List Lexeme → Type 0 where
    arguments : {n : ℕ} {xs : Terms Written} {tokens rest : List Lexeme} → n < 128 → AreTermsTo (n + 1) tokens xs rest → AreArguments n (sign s.Open ∷ tokens) xs rest

  -- terms with commas, or none, up to a closing bracket
  pub data AreTermsTo : ℕ → List Lexeme → Terms Written → List Lexeme → Type 0 where
    no_term : {n : ℕ} {rest : List Lexeme} → AreTermsTo n (sign s.Close ∷ rest) none rest
    some_terms : {n : ℕ} {xs : Terms Written} {tokens rest : List Lexeme} → IsNotFirst (sign s.Close) tokens → AreTerms n tokens xs rest → AreTermsTo n tokens xs rest

  -- terms with commas, up to a closing bracket
  pub data AreTerms : ℕ → List Lexeme → Terms Written → List Lexeme → Type 0 where
    last_term : {n : ℕ} {x : Term Written} {tokens rest : List Lexeme} → IsTerm n tokens x (sign s.Close ∷ rest) → AreTerms n tokens (more x none) rest
    next_term : {n : ℕ} {x : Term Written} {xs : Terms Written} {tokens mid rest : List Lexeme} → IsTerm n tokens x (sign s.Comma ∷ mid) → AreTerms n mid xs rest → AreTerms n tokens (more x xs) rest

-- annotations with commas, up to a closing bracket; which they are says nothing of a fact
pub data AreAnnotations : List Lexeme → Unit {0} → List Lexeme → Type 0 where
  last_annotation : {u : Unit {0}} {x : Lexeme} {rest : List Lexeme} → is_annotation x ≡ true → AreAnnotations (x ∷ sign s.CloseList ∷ rest) u rest
  next_annotation : {u : Unit {0}} {x : Lexeme} {tokens rest : List Lexeme} → is_annotation x ≡ true → AreAnnotations tokens u rest → AreAnnotations (x ∷ sign s.Comma ∷ tokens) u rest

-- the annotations behind a fact, where `[` always begins them, or none
pub data IsAnnotated : List Lexeme → Unit {0} → List Lexeme → Type 0 where
  unannotated : {u : Unit {0}} {rest : List Lexeme} → IsNotFirst (sign s.OpenList) rest → IsAnnotated rest u rest
  annotated : {u : Unit {0}} {tokens rest : List Lexeme} → AreAnnotations tokens u rest → IsAnnotated (sign s.OpenList ∷ tokens) u rest

pub data IsNamedFact (n : ℕ) (persistent : Bool) : List Lexeme → Fact Written → List Lexeme → Type 0 where
  named : {w : List ℕ} {args : Terms Written} {tokens mid rest : List Lexeme} → names_fact w ≡ true → AreArguments n tokens args mid → IsAnnotated mid tt rest → IsNamedFact n persistent (word w ∷ tokens) (fact w persistent args) rest

pub data IsFact (n : ℕ) : List Lexeme → Fact Written → List Lexeme → Type 0 where
  linear : {f : Fact Written} {tokens rest : List Lexeme} → IsNamedFact n false tokens f rest → IsFact n tokens f rest
  persistent : {f : Fact Written} {tokens rest : List Lexeme} → IsNamedFact n true tokens f rest → IsFact n (sign s.Bang ∷ tokens) f rest

-- one or more, one behind the other, up to this token
pub data AreUntil {A : Type 0} (R : List Lexeme → A → List Lexeme → Type 0) (close : Lexeme) : List Lexeme → List A → List Lexeme → Type 0 where
  last_one : {x : A} {tokens rest : List Lexeme} → R tokens x (close ∷ rest) → AreUntil R close tokens (x ∷ []) rest
  one_more : {x : A} {xs : List A} {tokens mid rest : List Lexeme} → R tokens x mid → AreUntil R close mid xs rest → AreUntil R close tokens (x ∷ xs) rest

-- var+ `.`
abbrev pub AreBinders : List Lexeme → List Written → List Lexeme → Type 0
AreBinders = AreUntil IsVariable (sign s.Dot)

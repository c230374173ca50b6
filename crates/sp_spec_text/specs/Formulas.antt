-- The grammar of variables, terms, facts and formulas, line by line: which tokens spell what. `SpellsX tokens x rest` says that the tokens
-- begin with a spelling of x, and that the rest follows. The number n is the nesting: brackets, quantifiers, and `==>` to the left that are open.
-- Source: Tamarin manual, "Syntax description".
use Rattle.std.specs.Prelude.{◌≡◌, ℕ, ◌+◌, ◌<◌, true, false, List, [], ◌∷◌, Some, codes}
use Rattle.sp_spec_text.specs.Signs.{Sign}
use Rattle.sp_spec_text.specs.Signs as s
use Rattle.sp_spec_text.specs.Token.{Lexeme, word, constant, sign}
use Rattle.sp_spec.specs.Term.{Term, var, app, Terms, none, more}
use Rattle.sp_spec.specs.Term as t
use Rattle.sp_spec.specs.Signature.{pair}
use Rattle.sp_spec.specs.Rule.{Fact}
use Rattle.sp_spec.specs.Formula.{Mark, bare, Written, Formula, truth, falsity, happens, equals, precedes, not_so, both, either, implies, for_some}
use Rattle.sp_spec_text.specs.Names.{IsName, names_fact, mark_of, mark_at, is_annotation}
use Rattle.sp_spec_text.specs.Lists.{IsNotFirst, AreParts}
use Rattle.sp_spec_text.specs.Shapes.{written, fact, action_of, quantified}

-- var: `~` name ; `$` name ; `#` name ; name ; name `:` (fresh pub msg node)
pub data SpellsVariable : List Lexeme → Written → List Lexeme → Type 0 where
  marked : {x : Sign} {m : Mark} {w : List ℕ} {rest : List Lexeme} → mark_at x ≡ Some m → IsName w → SpellsVariable (sign x ∷ word w ∷ rest) (written w m) rest
  unmarked : {w : List ℕ} {rest : List Lexeme} → IsName w → SpellsVariable (word w ∷ rest) (written w bare) rest
  sorted : {w k : List ℕ} {m : Mark} {rest : List Lexeme} → IsName w → mark_of k ≡ Some m → SpellsVariable (word w ∷ sign s.Colon ∷ word k ∷ rest) (written w m) rest

mutual
  -- term: `<` term,+ `>` ; name `(` term,* `)` ; name `{` term,+ `}` term ; constant ; var ; `(` term `)`
  pub data SpellsTerm : ℕ → List Lexeme → Term Written → List Lexeme → Type 0 where
    fixed : {n : ℕ} {c : List ℕ} {rest : List Lexeme} → SpellsTerm n (constant c ∷ rest) (t.constant c) rest
    variable : {n : ℕ} {v : Written} {tokens rest : List Lexeme} → SpellsVariable tokens v rest → SpellsTerm n tokens (var v) rest
    brackets : {n : ℕ} {x : Term Written} {tokens rest : List Lexeme} → n < 128 → SpellsTerm (n + 1) tokens x (sign s.Close ∷ rest) → SpellsTerm n (sign s.Open ∷ tokens) x rest
    tuple : {n : ℕ} {x : Term Written} {tokens rest : List Lexeme} → n < 128 → SpellsTuple (n + 1) s.Greater tokens x rest → SpellsTerm n (sign s.Less ∷ tokens) x rest
    application : {n : ℕ} {w : List ℕ} {xs : Terms Written} {tokens rest : List Lexeme} → IsName w → n < 128 → SpellsArguments (n + 1) tokens xs rest → SpellsTerm n (word w ∷ sign s.Open ∷ tokens) (app w xs) rest
    braced : {n : ℕ} {w : List ℕ} {x y : Term Written} {tokens mid rest : List Lexeme} → IsName w → n < 128 → SpellsTuple (n + 1) s.CloseBrace tokens x mid → SpellsTerm (n + 1) mid y rest → SpellsTerm n (word w ∷ sign s.OpenBrace ∷ tokens) (app w (more x (more y none))) rest

  -- term,+ and a closing sign: the first, or the pair of the first and what is behind its comma, which nests one deeper
  pub data SpellsTuple : ℕ → Sign → List Lexeme → Term Written → List Lexeme → Type 0 where
    last_part : {n : ℕ} {close : Sign} {x : Term Written} {tokens rest : List Lexeme} → SpellsTerm n tokens x (sign close ∷ rest) → SpellsTuple n close tokens x rest
    next_part : {n : ℕ} {close : Sign} {x y : Term Written} {tokens mid rest : List Lexeme} → SpellsTerm n tokens x (sign s.Comma ∷ mid) → n < 128 → SpellsTuple (n + 1) close mid y rest → SpellsTuple n close tokens (pair x y) rest

  -- term,* `)`
  pub data SpellsArguments : ℕ → List Lexeme → Terms Written → List Lexeme → Type 0 where
    no_argument : {n : ℕ} {rest : List Lexeme} → SpellsArguments n (sign s.Close ∷ rest) none rest
    some_arguments : {n : ℕ} {xs : Terms Written} {tokens rest : List Lexeme} → SpellsTerms n tokens xs rest → SpellsArguments n tokens xs rest

  -- term,+ `)`
  pub data SpellsTerms : ℕ → List Lexeme → Terms Written → List Lexeme → Type 0 where
    last_term : {n : ℕ} {x : Term Written} {tokens rest : List Lexeme} → SpellsTerm n tokens x (sign s.Close ∷ rest) → SpellsTerms n tokens (more x none) rest
    next_term : {n : ℕ} {x : Term Written} {xs : Terms Written} {tokens mid rest : List Lexeme} → SpellsTerm n tokens x (sign s.Comma ∷ mid) → SpellsTerms n mid xs rest → SpellsTerms n tokens (more x xs) rest

-- `+` `-` `no_precomp`
pub data SpellsAnnotation : List Lexeme → Lexeme → List Lexeme → Type 0 where
  annotation : {x : Lexeme} {rest : List Lexeme} → is_annotation x ≡ true → SpellsAnnotation (x ∷ rest) x rest

-- (`[` annotation,+ `]`)?, which say nothing of a fact
pub data SpellsAnnotations : List Lexeme → List Lexeme → Type 0 where
  no_annotation : {rest : List Lexeme} → SpellsAnnotations rest rest
  annotations : {each : List Lexeme} {tokens rest : List Lexeme} → AreParts SpellsAnnotation s.Comma s.CloseList tokens each rest → SpellsAnnotations (sign s.OpenList ∷ tokens) rest

-- fact: `!`? name `(` term,* `)` annotations
pub data SpellsFact (n : ℕ) : List Lexeme → Fact Written → List Lexeme → Type 0 where
  linear : {w : List ℕ} {args : Terms Written} {tokens mid rest : List Lexeme} → names_fact w ≡ true → n < 128 → SpellsArguments (n + 1) tokens args mid → SpellsAnnotations mid rest → SpellsFact n (word w ∷ sign s.Open ∷ tokens) (fact w false args) rest
  persistent : {w : List ℕ} {args : Terms Written} {tokens mid rest : List Lexeme} → names_fact w ≡ true → n < 128 → SpellsArguments (n + 1) tokens args mid → SpellsAnnotations mid rest → SpellsFact n (sign s.Bang ∷ word w ∷ sign s.Open ∷ tokens) (fact w true args) rest

-- var+ `.`
pub data SpellsBinders : List Lexeme → List Written → List Lexeme → Type 0 where
  one_binder : {v : Written} {tokens rest : List Lexeme} → SpellsVariable tokens v (sign s.Dot ∷ rest) → SpellsBinders tokens (v ∷ []) rest
  more_binders : {v : Written} {vs : List Written} {tokens mid rest : List Lexeme} → SpellsVariable tokens v mid → SpellsBinders mid vs rest → SpellsBinders tokens (v ∷ vs) rest

abbrev pub quantified_some : List Written → Formula → Formula
quantified_some [] f = f
quantified_some (v ∷ vs) f = for_some v (quantified_some vs f)

-- f `<=>` g
abbrev pub equivalent : Formula → Formula → Formula
equivalent f g = both (implies f g) (implies g f)

-- no sign by which a formula goes on, but `<=>`
pub record NoSign (rest : List Lexeme) : Type 0 where
  pub no_and : IsNotFirst (sign s.And) rest
  pub no_or : IsNotFirst (sign s.Or) rest
  pub no_arrow : IsNotFirst (sign s.Implies) rest

mutual
  -- unit: `(` formula `)` ; (`All` `Ex`) var+ `.` formula ; `T` ; `F` ; fact `@` var ; term `=` term ; var `<` var
  pub data SpellsUnit : ℕ → List Lexeme → Formula → List Lexeme → Type 0 where
    bracketed : {n : ℕ} {f : Formula} {tokens rest : List Lexeme} → n < 128 → SpellsFormula (n + 1) tokens f (sign s.Close ∷ rest) → SpellsUnit n (sign s.Open ∷ tokens) f rest
    every : {n : ℕ} {vs : List Written} {f : Formula} {tokens body rest : List Lexeme} → n < 128 → SpellsBinders tokens vs body → SpellsReach (n + 1) body f rest → SpellsUnit n (word (codes "All") ∷ tokens) (quantified vs f) rest
    there_is : {n : ℕ} {vs : List Written} {f : Formula} {tokens body rest : List Lexeme} → n < 128 → SpellsBinders tokens vs body → SpellsReach (n + 1) body f rest → SpellsUnit n (word (codes "Ex") ∷ tokens) (quantified_some vs f) rest
    true_unit : {n : ℕ} {rest : List Lexeme} → SpellsUnit n (word (codes "T") ∷ rest) truth rest
    false_unit : {n : ℕ} {rest : List Lexeme} → SpellsUnit n (word (codes "F") ∷ rest) falsity rest
    action : {n : ℕ} {f : Fact Written} {v : Written} {tokens mid rest : List Lexeme} → SpellsFact n tokens f (sign s.At ∷ mid) → SpellsVariable mid v rest → SpellsUnit n tokens (happens (action_of f) v) rest
    equation : {n : ℕ} {x y : Term Written} {tokens mid rest : List Lexeme} → SpellsTerm n tokens x (sign s.Equals ∷ mid) → SpellsTerm n mid y rest → SpellsUnit n tokens (equals x y) rest
    order : {n : ℕ} {v w : Written} {tokens mid rest : List Lexeme} → SpellsVariable tokens v (sign s.Less ∷ mid) → SpellsVariable mid w rest → SpellsUnit n tokens (precedes v w) rest

  -- neg: `not`? unit
  pub data SpellsNegation : ℕ → List Lexeme → Formula → List Lexeme → Type 0 where
    unit_alone : {n : ℕ} {f : Formula} {tokens rest : List Lexeme} → SpellsUnit n tokens f rest → SpellsNegation n tokens f rest
    negated : {n : ℕ} {f : Formula} {tokens rest : List Lexeme} → SpellsUnit n tokens f rest → SpellsNegation n (word (codes "not") ∷ tokens) (not_so f) rest

  -- conj: neg (`&` neg)*, which groups to the left; the first formula of the second line is what stands to the left
  pub data SpellsConjunction : ℕ → List Lexeme → Formula → List Lexeme → Type 0 where
    conjunction : {n : ℕ} {f g : Formula} {tokens mid rest : List Lexeme} → SpellsNegation n tokens f mid → SpellsAnds n f mid g rest → SpellsConjunction n tokens g rest

  pub data SpellsAnds : ℕ → Formula → List Lexeme → Formula → List Lexeme → Type 0 where
    no_more_and : {n : ℕ} {f : Formula} {rest : List Lexeme} → SpellsAnds n f rest f rest
    and_then : {n : ℕ} {f g h : Formula} {tokens mid rest : List Lexeme} → SpellsNegation n tokens g mid → SpellsAnds n (both f g) mid h rest → SpellsAnds n f (sign s.And ∷ tokens) h rest

  -- disj: conj (`|` conj)*
  pub data SpellsDisjunction : ℕ → List Lexeme → Formula → List Lexeme → Type 0 where
    disjunction : {n : ℕ} {f g : Formula} {tokens mid rest : List Lexeme} → SpellsConjunction n tokens f mid → SpellsOrs n f mid g rest → SpellsDisjunction n tokens g rest

  pub data SpellsOrs : ℕ → Formula → List Lexeme → Formula → List Lexeme → Type 0 where
    no_more_or : {n : ℕ} {f : Formula} {rest : List Lexeme} → SpellsOrs n f rest f rest
    or_then : {n : ℕ} {f g h : Formula} {tokens mid rest : List Lexeme} → SpellsConjunction n tokens g mid → SpellsOrs n (either f g) mid h rest → SpellsOrs n f (sign s.Or ∷ tokens) h rest

  -- imp: disj (`==>` imp)?
  pub data SpellsImplication : ℕ → List Lexeme → Formula → List Lexeme → Type 0 where
    alone : {n : ℕ} {f : Formula} {tokens rest : List Lexeme} → SpellsDisjunction n tokens f rest → SpellsImplication n tokens f rest
    implication : {n : ℕ} {f g : Formula} {tokens mid rest : List Lexeme} → SpellsDisjunction n tokens f (sign s.Implies ∷ mid) → n < 128 → SpellsImplication (n + 1) mid g rest → SpellsImplication n tokens (implies f g) rest

  -- formula: imp (`<=>` imp)?
  pub data SpellsFormula : ℕ → List Lexeme → Formula → List Lexeme → Type 0 where
    one : {n : ℕ} {f : Formula} {tokens rest : List Lexeme} → SpellsImplication n tokens f rest → SpellsFormula n tokens f rest
    two : {n : ℕ} {f g : Formula} {tokens mid rest : List Lexeme} → SpellsImplication n tokens f (sign s.Iff ∷ mid) → SpellsImplication n mid g rest → SpellsFormula n tokens (equivalent f g) rest

  -- a formula that reaches as far to the right as it can: no sign follows by which it could go on
  pub data SpellsReach : ℕ → List Lexeme → Formula → List Lexeme → Type 0 where
    reach_one : {n : ℕ} {f : Formula} {tokens rest : List Lexeme} → SpellsImplication n tokens f rest → NoSign rest → IsNotFirst (sign s.Iff) rest → SpellsReach n tokens f rest
    reach_two : {n : ℕ} {f g : Formula} {tokens mid rest : List Lexeme} → SpellsImplication n tokens f (sign s.Iff ∷ mid) → SpellsImplication n mid g rest → NoSign rest → SpellsReach n tokens (equivalent f g) rest

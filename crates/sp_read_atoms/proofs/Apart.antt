-- What begins as one kind of formula begins as no other kind.
use Rattle.std.proofs.Common.{◌≡◌, ℕ, Bool, true, false, not, ◌&&◌, List, [], ◌∷◌, None, codes, refl, sym, subst, ◌∙◌}
use Rattle.sp_spec_text.specs.Signs.{Sign}
use Rattle.sp_spec_text.specs.Signs as s
use Rattle.sp_spec_text.specs.Token.{Lexeme, word, sign}
use Rattle.sp_spec.specs.Term.{Term, var}
use Rattle.sp_spec.specs.Rule.{Fact}
use Rattle.sp_spec.specs.Formula.{Written, Formula}
use Rattle.sp_spec_text.specs.Names.{is_reserved, is_capital, names_fact, mark_at}
use Rattle.sp_spec_text.specs.Lists.{IsNotFirst, NoReading}
use Rattle.sp_spec_text.proofs.Words.{all_reserved, ex_reserved}
use Rattle.sp_read_parts.specs.Parts as f
use Rattle.sp_read_parts.specs.Parts.{IsVariable, IsNoApplication, IsTerm, IsAnnotated, IsFact}
use Rattle.sp_read_atoms.specs.Atoms.{two_sides, first, second, IsEquality, IsOrder, IsAction, IsConstant, true_word, false_word, IsAtom}
use Rattle.sp_read_parts.proofs.One.{variable_sign, term_one, term_sign, arguments_one, fact_sign}
use Rattle.sp_read_atoms.proofs.Atomic.{no_constant, or_else_none}

-- ---- words

pub variable_name : {w : List ℕ} {tokens rest : List Lexeme} {v : Written} → IsVariable (word w ∷ tokens) v rest → is_reserved w ≡ false
variable_name (f.sorted (f.name h) e) = h
variable_name (f.unmarked (f.name h) d) = h

pub variable_rest : {w : List ℕ} {tokens rest : List Lexeme} {v : Written} → IsVariable (word w ∷ tokens) v rest → IsNotFirst (sign s.Colon) tokens → tokens ≡ rest
variable_rest (f.sorted {behind = b} (f.name h) e) c = absurd (c b refl)
variable_rest (f.unmarked (f.name h) d) c = refl

-- neither a sign by which a variable goes on, nor one that makes a name the symbol of what follows
pub record EndsTerm (rest : List Lexeme) : Type 0 where
  pub no_colon : IsNotFirst (sign s.Colon) rest
  pub no_bracket : IsNotFirst (sign s.Open) rest
  pub no_brace : IsNotFirst (sign s.OpenBrace) rest

abbrev pub GoesTermOn : Sign → Type 0
GoesTermOn s.Colon = Unit {0}
GoesTermOn s.Open = Unit {0}
GoesTermOn s.OpenBrace = Unit {0}
GoesTermOn _ = ⊥

pub sign_ends : (x : Sign) (rest : List Lexeme) → (GoesTermOn x → ⊥) → EndsTerm (sign x ∷ rest)
sign_ends x rest h = record {
  no_colon = λ r e. let i : s.Colon ≡ x = cc in h (subst GoesTermOn i tt);
  no_bracket = λ r e. let i : s.Open ≡ x = cc in h (subst GoesTermOn i tt);
  no_brace = λ r e. let i : s.OpenBrace ≡ x = cc in h (subst GoesTermOn i tt);
}

pub word_ends : (w : List ℕ) (rest : List Lexeme) → EndsTerm (word w ∷ rest)
word_ends w rest = record { no_colon = λ r e. cc; no_bracket = λ r e. cc; no_brace = λ r e. cc }

pub nothing_ends : EndsTerm []
nothing_ends = record { no_colon = λ r e. cc; no_bracket = λ r e. cc; no_brace = λ r e. cc }

-- a term ends behind its first word, where nothing follows by which it goes on
pub word_alone : {n : ℕ} {w : List ℕ} {tokens rest : List Lexeme} {x : Term Written} → IsTerm n (word w ∷ tokens) x rest → EndsTerm tokens → tokens ≡ rest
word_alone (f.variable d h) e = variable_rest h e.no_colon
word_alone (f.application i (f.arguments {tokens = ts} lt h)) e = absurd (e.no_bracket ts refl)
word_alone (f.braced {tokens = ts} i lt h k) e = absurd (e.no_brace ts refl)

pub no_equality_word : {n : ℕ} {w : List ℕ} {tokens : List Lexeme} → IsNotFirst (sign s.Equals) tokens → EndsTerm tokens → NoReading (IsEquality n) (word w ∷ tokens)
no_equality_word {n} {w} {tokens} e c = record { none = λ u r h. at h }
  where
    at : {r : List Lexeme} {u : Formula} → IsEquality n (word w ∷ tokens) u r → ⊥
    at (two_sides {mid = m} h k) = e m (word_alone h c)

pub no_order_word : {w : List ℕ} {tokens : List Lexeme} → IsNotFirst (sign s.Less) tokens → IsNotFirst (sign s.Colon) tokens → NoReading IsOrder (word w ∷ tokens)
no_order_word {w} {tokens} l c = record { none = λ u r h. at h }
  where
    at : {r : List Lexeme} {u : Formula} → IsOrder (word w ∷ tokens) u r → ⊥
    at (two_sides {mid = m} h k) = l m (variable_rest h c)

-- a fact that begins with a word begins with its name and a bracket
word_fact : {n : ℕ} {w : List ℕ} {tokens rest : List Lexeme} {x : Fact Written} → IsFact n (word w ∷ tokens) x rest → (names_fact w ≡ true) × (ts : List Lexeme) × (tokens ≡ sign s.Open ∷ ts)
word_fact (f.linear (f.named e (f.arguments {tokens = ts} lt h) a)) = (e, ts, refl)

pub no_action_word : {n : ℕ} {w : List ℕ} {tokens : List Lexeme} → IsNotFirst (sign s.Open) tokens → NoReading (IsAction n) (word w ∷ tokens)
no_action_word {n} {w} {tokens} o = record { none = λ u r h. at h }
  where
    at : {r : List Lexeme} {u : Formula} → IsAction n (word w ∷ tokens) u r → ⊥
    at (two_sides h k) = let i = word_fact h in o i.1 i.2

-- ---- signs

pub sign_no_equality : {n : ℕ} {x : Sign} {tokens : List Lexeme} → mark_at x ≡ None → (x ≡ s.Open → ⊥) → (x ≡ s.Less → ⊥) → NoReading (IsEquality n) (sign x ∷ tokens)
sign_no_equality {n} {x} {tokens} e d l = record { none = λ u r h. at h }
  where
    at : {r : List Lexeme} {u : Formula} → IsEquality n (sign x ∷ tokens) u r → ⊥
    at (two_sides h k) = term_sign e d l h

pub sign_no_order : {x : Sign} {tokens : List Lexeme} → mark_at x ≡ None → NoReading IsOrder (sign x ∷ tokens)
sign_no_order {x} {tokens} e = record { none = λ u r h. at h }
  where
    at : {r : List Lexeme} {u : Formula} → IsOrder (sign x ∷ tokens) u r → ⊥
    at (two_sides h k) = variable_sign e h

pub sign_no_action : {n : ℕ} {x : Sign} {tokens : List Lexeme} → (x ≡ s.Bang → ⊥) → NoReading (IsAction n) (sign x ∷ tokens)
sign_no_action {n} {x} {tokens} d = record { none = λ u r h. at h }
  where
    at : {r : List Lexeme} {u : Formula} → IsAction n (sign x ∷ tokens) u r → ⊥
    at (two_sides h k) = fact_sign d h

-- ---- facts and variables

called : {w : List ℕ} {tokens rest : List Lexeme} → IsNoApplication tokens → tokens ≡ word w ∷ sign s.Open ∷ rest → ⊥
called {w} {rest = r} d e = d.no_bracket w r e

-- where a term is read that begins as a fact, the fact's annotations stand behind it
fact_term : {n : ℕ} {tokens r rest : List Lexeme} {x : Fact Written} {y : Term Written} → IsFact n tokens x rest → IsTerm n tokens y r → IsAnnotated r tt rest
fact_term (f.linear (f.named e (f.arguments lt h) a)) (f.variable d k) = absurd (called d refl)
fact_term {rest = rest} (f.linear (f.named e h a)) (f.application i k) = subst (λ (ts : List Lexeme). IsAnnotated ts tt rest) (arguments_one h k).1 a
fact_term (f.linear (f.named e h a)) (f.braced i lt k l) = elim h [ ]
fact_term (f.persistent h) t = absurd (term_sign refl (λ e. cc) (λ e. cc) t)

-- annotations begin with `[`, or the same sign follows
annotated_sign : {x y : Sign} {tokens rest : List Lexeme} → (x ≡ s.OpenList → ⊥) → IsAnnotated (sign x ∷ tokens) tt (sign y ∷ rest) → x ≡ y
annotated_sign d (f.unannotated e) = refl
annotated_sign d (f.annotated h) = absurd (d refl)

pub fact_no_equality : {n : ℕ} {tokens rest : List Lexeme} {x : Fact Written} → IsFact n tokens x (sign s.At ∷ rest) → NoReading (IsEquality n) tokens
fact_no_equality {n} {tokens} i = record { none = λ u r h. at h i }
  where
    at : {r rest : List Lexeme} {u : Formula} {x : Fact Written} → IsEquality n tokens u r → IsFact n tokens x (sign s.At ∷ rest) → ⊥
    at (two_sides h k) i = let e : s.Equals ≡ s.At = annotated_sign (λ d. cc) (fact_term i h) in cc

pub fact_no_order : {n : ℕ} {tokens rest : List Lexeme} {x : Fact Written} → IsFact n tokens x rest → NoReading IsOrder tokens
fact_no_order (f.linear (f.named e (f.arguments lt h) a)) = no_order_word (λ r d. cc) (λ r d. cc)
fact_no_order (f.persistent h) = sign_no_order refl

-- a variable with nothing behind it that makes it a symbol is a term
variable_ends : {tokens rest : List Lexeme} {v : Written} → IsVariable tokens v rest → IsNotFirst (sign s.Open) rest → IsNotFirst (sign s.OpenBrace) rest → IsNoApplication tokens
variable_ends (f.marked e h) o b = record { no_bracket = λ w r d. cc; no_brace = λ w r d. cc }
variable_ends (f.sorted (f.name h) e) o b = record { no_bracket = λ w r d. cc; no_brace = λ w r d. cc }
variable_ends (f.unmarked (f.name h) d) o b = record { no_bracket = λ w r e. o r cc; no_brace = λ w r e. b r cc }

pub variable_term : {n : ℕ} {tokens rest : List Lexeme} {v : Written} → IsVariable tokens v rest → IsNotFirst (sign s.Open) rest → IsNotFirst (sign s.OpenBrace) rest → IsTerm n tokens (var v) rest
variable_term h o b = f.variable (variable_ends h o b) h

less_term : {n : ℕ} {tokens after r : List Lexeme} {v : Written} {x : Term Written} → IsVariable tokens v (sign s.Less ∷ after) → IsTerm n tokens x r → sign s.Less ∷ after ≡ r
less_term i h = (term_one (variable_term i (λ r e. cc) (λ r e. cc)) h).1

pub less_no_equality : {n : ℕ} {tokens after : List Lexeme} {v : Written} → IsVariable tokens v (sign s.Less ∷ after) → NoReading (IsEquality n) tokens
less_no_equality {n} {tokens} i = record { none = λ u r h. at h i }
  where
    at : {r after : List Lexeme} {u : Formula} {v : Written} → IsEquality n tokens u r → IsVariable tokens v (sign s.Less ∷ after) → ⊥
    at (two_sides h k) i = let e = less_term i h in cc

-- ---- reserved words

pub not_is_reserved : is_reserved (codes "not") ≡ true
unfolding is_reserved
not_is_reserved = refl

reserved_is_out : (a b : Bool) → b ≡ true → (a && not b) ≡ true → ⊥
reserved_is_out false b e h = cc
reserved_is_out true false e h = cc
reserved_is_out true true e h = cc

pub reserved_no_fact : (w : List ℕ) → is_reserved w ≡ true → names_fact w ≡ true → ⊥
reserved_no_fact w e h = reserved_is_out (is_capital w) (is_reserved w) e h

pub reserved_no_term : {n : ℕ} {w : List ℕ} {tokens rest : List Lexeme} {x : Term Written} → is_reserved w ≡ true → IsTerm n (word w ∷ tokens) x rest → ⊥
reserved_no_term e (f.variable c h) = let i = variable_name h in let d : true ≡ false = sym e ∙ i in cc
reserved_no_term e (f.application i h) = let d : true ≡ false = sym e ∙ i in cc
reserved_no_term e (f.braced i lt h k) = let d : true ≡ false = sym e ∙ i in cc

reserved_no_atom : {n : ℕ} {w : List ℕ} {tokens : List Lexeme} → is_reserved w ≡ true → NoReading IsConstant (word w ∷ tokens) → NoReading (IsAtom n) (word w ∷ tokens)
reserved_no_atom {n} {w} {tokens} e c = or_else_none (record { none = λ u r h. equality h }) (or_else_none (record { none = λ u r h. order h }) (or_else_none (record { none = λ u r h. action h }) c))
  where
    equality : {r : List Lexeme} {u : Formula} → IsEquality n (word w ∷ tokens) u r → ⊥
    equality (two_sides h k) = reserved_no_term e h

    order : {r : List Lexeme} {u : Formula} → IsOrder (word w ∷ tokens) u r → ⊥
    order (two_sides h k) = let i = variable_name h in let d : true ≡ false = sym e ∙ i in cc

    action : {r : List Lexeme} {u : Formula} → IsAction n (word w ∷ tokens) u r → ⊥
    action (two_sides h k) = reserved_no_fact w e (word_fact h).0

pub all_no_atom : {n : ℕ} {tokens : List Lexeme} → NoReading (IsAtom n) (word (codes "All") ∷ tokens)
all_no_atom = reserved_no_atom all_reserved (no_constant (λ r e. cc) (λ r e. cc))

pub ex_no_atom : {n : ℕ} {tokens : List Lexeme} → NoReading (IsAtom n) (word (codes "Ex") ∷ tokens)
ex_no_atom = reserved_no_atom ex_reserved (no_constant (λ r e. cc) (λ r e. cc))

-- ---- what a bracket closes

pub atom_closes : {n : ℕ} {tokens r rest : List Lexeme} {x : Term Written} {g : Formula} → IsAtom n tokens g rest → IsTerm n tokens x (sign s.Close ∷ r) → EndsTerm rest → rest ≡ sign s.Close ∷ r
atom_closes (first (two_sides h k)) t c = let e = (term_one h t).1 in absurd cc
atom_closes (second d (first (two_sides h k))) t c = let e = less_term h t in absurd cc
atom_closes (second d (second e (first (two_sides h k)))) t c = let i : s.Close ≡ s.At = annotated_sign (λ j. cc) (fact_term h t) in absurd cc
atom_closes (second d (second e (second l true_word))) t c = word_alone t c
atom_closes (second d (second e (second l false_word))) t c = word_alone t c

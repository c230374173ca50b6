-- Variables, terms and facts that the grammar spells, where no sign follows by which they could go on, are read.
use Rattle.std.proofs.Common.{◌≡◌, ℕ, List, ◌∷◌, Some, refl, subst}
use Rattle.sp_spec_text.specs.Signs.{Sign}
use Rattle.sp_spec_text.specs.Signs as s
use Rattle.sp_spec_text.specs.Token.{Lexeme, sign}
use Rattle.sp_spec.specs.Term.{Term, Terms}
use Rattle.sp_spec.specs.Rule.{Fact}
use Rattle.sp_spec.specs.Formula.{Written}
use Rattle.sp_spec_text.specs.Names.{mark_at}
use Rattle.sp_spec_text.specs.Lists.{IsNotFirst, AreParts, last, next, AreItems, empty, some}
use Rattle.sp_read_parts.specs.Parts as f
use Rattle.sp_read_parts.specs.Parts.{IsVariable, IsTerm, IsTuple, AreTermsTo, AreTerms, AreAnnotations, IsAnnotated, IsFact, AreBinders}
use Rattle.sp_spec_text.specs.Formulas as g
use Rattle.sp_spec_text.specs.Formulas.{SpellsVariable, SpellsTerm, SpellsTuple, SpellsArguments, SpellsTerms, SpellsAnnotation, SpellsAnnotations, SpellsFact, SpellsBinders}
use Rattle.sp_read_parts.proofs.One.{term_sign}
use Rattle.sp_read_atoms.proofs.Apart.{EndsTerm, sign_ends, variable_term}

pub variable_taken : {tokens rest : List Lexeme} {v : Written} → SpellsVariable tokens v rest → IsNotFirst (sign s.Colon) rest → IsVariable tokens v rest
variable_taken (g.marked e h) d = f.marked e (f.name h)
variable_taken (g.unmarked h) d = f.unmarked (f.name h) d
variable_taken (g.sorted h e) d = f.sorted (f.name h) (f.sort e)

-- no term begins with a closing bracket
term_not_closed : {n : ℕ} {tokens rest : List Lexeme} {x : Term Written} → IsTerm n tokens x rest → IsNotFirst (sign s.Close) tokens
term_not_closed {n} {rest = q} {x = x} h = λ r e. term_sign refl (λ d. cc) (λ d. cc) (subst (λ (ts : List Lexeme). IsTerm n ts x q) e h)

terms_not_closed : {n : ℕ} {tokens rest : List Lexeme} {xs : Terms Written} → AreTerms n tokens xs rest → IsNotFirst (sign s.Close) tokens
terms_not_closed (f.last_term h) = term_not_closed h
terms_not_closed (f.next_term h k) = term_not_closed h

-- what closes a tuple
abbrev ClosesTuple : Sign → Type 0
ClosesTuple s.Greater = Unit {0}
ClosesTuple s.CloseBrace = Unit {0}
ClosesTuple _ = ⊥

tuple_ends : (close : Sign) → ClosesTuple close → (rest : List Lexeme) → EndsTerm (sign close ∷ rest)
tuple_ends s.Greater c rest = sign_ends s.Greater rest (λ i. i)
tuple_ends s.CloseBrace c rest = sign_ends s.CloseBrace rest (λ i. i)
tuple_ends _ c rest = absurd c

mutual
  -- whatever follows, a word or a sign, but none by which the term goes on
  pub term_taken : {n : ℕ} {tokens rest : List Lexeme} {x : Term Written} → SpellsTerm n tokens x rest → EndsTerm rest → IsTerm n tokens x rest
  term_taken g.fixed e = f.fixed
  term_taken (g.variable h) e = variable_term (variable_taken h e.no_colon) e.no_bracket e.no_brace
  term_taken (g.brackets {rest = r} lt h) e = f.brackets lt (term_taken h (sign_ends s.Close r (λ i. i)))
  term_taken (g.tuple lt h) e = f.tuple lt (tuple_taken tt h)
  term_taken (g.application i lt h) e = f.application i (f.arguments lt (list_taken h))
  term_taken (g.braced i lt h k) e = f.braced i lt (tuple_taken tt h) (term_taken k e)

  tuple_taken : {n : ℕ} {close : Sign} {tokens rest : List Lexeme} {x : Term Written} → ClosesTuple close → SpellsTuple n close tokens x rest → IsTuple n close tokens x rest
  tuple_taken {close = close} c (g.last_part {rest = r} h) = f.last_part (term_taken h (tuple_ends close c r))
  tuple_taken c (g.next_part {mid = m} h lt k) = f.next_part (term_taken h (sign_ends s.Comma m (λ i. i))) lt (tuple_taken c k)

  list_taken : {n : ℕ} {tokens rest : List Lexeme} {xs : Terms Written} → SpellsArguments n tokens xs rest → AreTermsTo n tokens xs rest
  list_taken g.no_argument = f.no_term
  list_taken (g.some_arguments h) = let i = terms_taken h in f.some_terms (terms_not_closed i) i

  terms_taken : {n : ℕ} {tokens rest : List Lexeme} {xs : Terms Written} → SpellsTerms n tokens xs rest → AreTerms n tokens xs rest
  terms_taken (g.last_term {rest = r} h) = f.last_term (term_taken h (sign_ends s.Close r (λ i. i)))
  terms_taken (g.next_term {mid = m} h k) = f.next_term (term_taken h (sign_ends s.Comma m (λ i. i))) (terms_taken k)

annotations_taken : {each tokens rest : List Lexeme} → AreParts SpellsAnnotation s.Comma s.CloseList tokens each rest → AreAnnotations tokens tt rest
annotations_taken (last (g.annotation e)) = f.last_annotation e
annotations_taken (next (g.annotation e) k) = f.next_annotation e (annotations_taken k)

annotated_taken : {tokens rest : List Lexeme} → SpellsAnnotations tokens rest → IsNotFirst (sign s.OpenList) rest → IsAnnotated tokens tt rest
annotated_taken g.no_annotation d = f.unannotated d
annotated_taken (g.annotations h) d = f.annotated (annotations_taken h)

-- a bracket behind a fact begins its annotations
pub fact_taken : {n : ℕ} {tokens rest : List Lexeme} {x : Fact Written} → SpellsFact n tokens x rest → IsNotFirst (sign s.OpenList) rest → IsFact n tokens x rest
fact_taken (g.linear e lt h a) d = f.linear (f.named e (f.arguments lt (list_taken h)) (annotated_taken a d))
fact_taken (g.persistent e lt h a) d = f.persistent (f.named e (f.arguments lt (list_taken h)) (annotated_taken a d))

fact_parts_taken : {n : ℕ} {close : Sign} → (close ≡ s.OpenList → ⊥) → {tokens rest : List Lexeme} {fs : List (Fact Written)} → AreParts (SpellsFact n) s.Comma close tokens fs rest → AreParts (IsFact n) s.Comma close tokens fs rest
fact_parts_taken {close = close} d (last h) = last (fact_taken h (λ r e. let i : close ≡ s.OpenList = cc in d i))
fact_parts_taken d (next h k) = next (fact_taken h (λ r e. cc)) (fact_parts_taken d k)

-- facts with commas, or none, before a sign that isn't `[`
pub facts_taken : {n : ℕ} {close : Sign} → (close ≡ s.OpenList → ⊥) → {tokens rest : List Lexeme} {fs : List (Fact Written)} → AreItems (SpellsFact n) close tokens fs rest → AreItems (IsFact n) close tokens fs rest
facts_taken d empty = empty
facts_taken d (some h) = some (fact_parts_taken d h)

variable_not_colon : {tokens rest : List Lexeme} {v : Written} → SpellsVariable tokens v rest → IsNotFirst (sign s.Colon) tokens
variable_not_colon (g.marked {x = x} {m = m} e h) = λ r d. let i : x ≡ s.Colon = cc in let j : mark_at s.Colon ≡ Some m = subst (λ (y : Sign). mark_at y ≡ Some m) i e in cc
variable_not_colon (g.unmarked h) = λ r d. cc
variable_not_colon (g.sorted h e) = λ r d. cc

binders_not_colon : {tokens rest : List Lexeme} {vs : List Written} → SpellsBinders tokens vs rest → IsNotFirst (sign s.Colon) tokens
binders_not_colon (g.one_binder h) = variable_not_colon h
binders_not_colon (g.more_binders h k) = variable_not_colon h

pub binders_taken : {tokens rest : List Lexeme} {vs : List Written} → SpellsBinders tokens vs rest → AreBinders tokens vs rest
binders_taken (g.one_binder h) = f.last_one (variable_taken h (λ r e. cc))
binders_taken (g.more_binders h k) = f.one_more (variable_taken h (binders_not_colon k)) (binders_taken k)

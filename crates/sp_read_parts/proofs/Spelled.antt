-- Each part that is read is spelled so by the grammar.
use Rattle.std.proofs.Common.{ℕ, List, [], ◌∷◌}
use Rattle.sp_spec_text.specs.Signs.{Sign}
use Rattle.sp_spec_text.specs.Signs as s
use Rattle.sp_spec_text.specs.Token.{Lexeme}
use Rattle.sp_spec.specs.Term.{Term, Terms}
use Rattle.sp_spec.specs.Rule.{Fact}
use Rattle.sp_spec.specs.Formula.{Written}
use Rattle.sp_spec_text.specs.Lists.{AreParts, last, next, AreItems, empty, some}
use Rattle.sp_read_parts.specs.Parts as f
use Rattle.sp_read_parts.specs.Parts.{IsVariable, IsTerm, IsTuple, AreTermsTo, AreTerms, AreAnnotations, IsAnnotated, IsFact, AreBinders}
use Rattle.sp_spec_text.specs.Formulas as g
use Rattle.sp_spec_text.specs.Formulas.{SpellsVariable, SpellsTerm, SpellsTuple, SpellsArguments, SpellsTerms, SpellsAnnotation, SpellsAnnotations, SpellsFact, SpellsBinders}

pub variable_spelled : {tokens rest : List Lexeme} {v : Written} → IsVariable tokens v rest → SpellsVariable tokens v rest
variable_spelled (f.marked e (f.name h)) = g.marked e h
variable_spelled (f.sorted (f.name h) (f.sort e)) = g.sorted h e
variable_spelled (f.unmarked (f.name h) d) = g.unmarked h

mutual
  pub term_spelled : {n : ℕ} {tokens rest : List Lexeme} {x : Term Written} → IsTerm n tokens x rest → SpellsTerm n tokens x rest
  term_spelled f.fixed = g.fixed
  term_spelled (f.variable d h) = g.variable (variable_spelled h)
  term_spelled (f.brackets lt h) = g.brackets lt (term_spelled h)
  term_spelled (f.tuple lt h) = g.tuple lt (tuple_spelled h)
  term_spelled (f.application i (f.arguments lt h)) = g.application i lt (list_spelled h)
  term_spelled (f.braced i lt h k) = g.braced i lt (tuple_spelled h) (term_spelled k)

  tuple_spelled : {n : ℕ} {close : Sign} {tokens rest : List Lexeme} {x : Term Written} → IsTuple n close tokens x rest → SpellsTuple n close tokens x rest
  tuple_spelled (f.last_part h) = g.last_part (term_spelled h)
  tuple_spelled (f.next_part h lt k) = g.next_part (term_spelled h) lt (tuple_spelled k)

  list_spelled : {n : ℕ} {tokens rest : List Lexeme} {xs : Terms Written} → AreTermsTo n tokens xs rest → SpellsArguments n tokens xs rest
  list_spelled f.no_term = g.no_argument
  list_spelled (f.some_terms d h) = g.some_arguments (terms_spelled h)

  terms_spelled : {n : ℕ} {tokens rest : List Lexeme} {xs : Terms Written} → AreTerms n tokens xs rest → SpellsTerms n tokens xs rest
  terms_spelled (f.last_term h) = g.last_term (term_spelled h)
  terms_spelled (f.next_term h k) = g.next_term (term_spelled h) (terms_spelled k)

pub parts_spelled : {A : Type 0} {R S : List Lexeme → A → List Lexeme → Type 0} {between close : Sign} → ((tokens : List Lexeme) (x : A) (rest : List Lexeme) → R tokens x rest → S tokens x rest)
    → {tokens rest : List Lexeme} {xs : List A} → AreParts R between close tokens xs rest → AreParts S between close tokens xs rest
parts_spelled m (last h) = last (m _ _ _ h)
parts_spelled m (next h k) = next (m _ _ _ h) (parts_spelled m k)

pub items_spelled : {A : Type 0} {R S : List Lexeme → A → List Lexeme → Type 0} {close : Sign} → ((tokens : List Lexeme) (x : A) (rest : List Lexeme) → R tokens x rest → S tokens x rest)
    → {tokens rest : List Lexeme} {xs : List A} → AreItems R close tokens xs rest → AreItems S close tokens xs rest
items_spelled m empty = empty
items_spelled m (some h) = some (parts_spelled m h)

annotation_parts : {u : Unit {0}} {tokens rest : List Lexeme} → AreAnnotations tokens u rest → (each : List Lexeme) × AreParts SpellsAnnotation s.Comma s.CloseList tokens each rest
annotation_parts (f.last_annotation {x = x} e) = (x ∷ [], last (g.annotation e))
annotation_parts (f.next_annotation {x = x} e h) = let i = annotation_parts h in (x ∷ i.0, next (g.annotation e) i.1)

annotated_spelled : {u : Unit {0}} {tokens rest : List Lexeme} → IsAnnotated tokens u rest → SpellsAnnotations tokens rest
annotated_spelled (f.unannotated d) = g.no_annotation
annotated_spelled (f.annotated h) = g.annotations (annotation_parts h).1

pub fact_spelled : {n : ℕ} {tokens rest : List Lexeme} {x : Fact Written} → IsFact n tokens x rest → SpellsFact n tokens x rest
fact_spelled (f.linear (f.named e (f.arguments lt h) a)) = g.linear e lt (list_spelled h) (annotated_spelled a)
fact_spelled (f.persistent (f.named e (f.arguments lt h) a)) = g.persistent e lt (list_spelled h) (annotated_spelled a)

pub binders_spelled : {tokens rest : List Lexeme} {vs : List Written} → AreBinders tokens vs rest → SpellsBinders tokens vs rest
binders_spelled (f.last_one h) = g.one_binder (variable_spelled h)
binders_spelled (f.one_more h k) = g.more_binders (variable_spelled h) (binders_spelled k)

-- The variables, terms and facts of the grammar are in the table.
use Rattle.std.proofs.Common.{◌≡◌, ℕ, ◌+◌, ◌<◌, ◌==◌, lt-ltb, eq-eqb, Bool, true, false, List, [], ◌∷◌, Some, None, refl, subst}
use Rattle.sp_spec_text.specs.Signs.{Sign}
use Rattle.sp_spec_text.specs.Signs as s
use Rattle.sp_spec_text.specs.Token.{Lexeme, word, sign}
use Rattle.sp_spec.specs.Term.{Term, Terms}
use Rattle.sp_spec.specs.Rule.{Fact}
use Rattle.sp_spec.specs.Formula.{Mark, Written}
use Rattle.sp_spec_text.specs.Names.{IsName, names_fact, mark_of, mark_at}
use Rattle.sp_spec_text.specs.Lists.{AreParts, last, next as next_part}
use Rattle.sp_spec_text.specs.Formulas as g
use Rattle.sp_spec_text.specs.Formulas.{SpellsVariable, SpellsTerm, SpellsTuple, SpellsArguments, SpellsTerms, SpellsAnnotation, SpellsAnnotations, SpellsFact, SpellsBinders}
use Rattle.sp_await.specs.Parts.{Awaited}
use Rattle.sp_await.specs.Parts as a
use Rattle.sp_await.specs.Table.{code, is_sign}
use Rattle.sp_law_await.specs.Language.{Has, by_token, by_parts, HasAll, all_had, and_all}
use Rattle.sp_law_await.proofs.Had.{one_had, become_all}
use Rattle.sp_law_await.proofs.Tokens.{same_sign, is_some_of}
use Rattle.std.proofs.lemmas.Bool.{false_from_ne_true}

-- a token stands there, and the first does not pass the test
pub data Without (p : Lexeme → Bool) : List Lexeme → Type 0 where
  without : {x : Lexeme} {tokens : List Lexeme} → p x ≡ false → Without p (x ∷ tokens)

marks_differ : {y z : Sign} {m : Mark} → mark_at y ≡ Some m → mark_at z ≡ None → y ≡ z → ⊥
marks_differ {y} {z} {m} e d f = let i : mark_at z ≡ Some m = subst (λ (u : Sign). mark_at u ≡ Some m) f e in cc

-- the sign before a variable is no other sign
pub no_mark : {m : Mark} (y z : Sign) → mark_at y ≡ Some m → mark_at z ≡ None → (code y == code z) ≡ false
no_mark y z e d = false_from_ne_true (code y == code z) (λ h. marks_differ e d (same_sign y z h))

-- ---- single tokens

pub has_name : {w : List ℕ} {rest : List Lexeme} → IsName w → Has a.Name (word w ∷ rest) rest
has_name n = by_token (rw n refl) all_had

pub has_sort : {w : List ℕ} {m : Mark} {rest : List Lexeme} → mark_of w ≡ Some m → Has a.Sort (word w ∷ rest) rest
has_sort e = by_token (rw e refl) all_had

pub has_fact_name : {w : List ℕ} {rest : List Lexeme} → names_fact w ≡ true → Has a.FactName (word w ∷ rest) rest
has_fact_name e = by_token (rw e refl) all_had

-- ---- variables

pub no_sort : {tokens : List Lexeme} → Without (is_sign s.Colon) tokens → Has a.Sorted tokens tokens
no_sort (without e) = by_parts (rw e refl) all_had

pub has_variable : {tokens rest : List Lexeme} {v : Written} → SpellsVariable tokens v rest → Without (is_sign s.Colon) rest → Has a.Variable tokens rest
has_variable (g.marked e n) d = by_token (rw (is_some_of e) refl) (one_had {part = a.Name} (has_name n))
has_variable (g.unmarked n) d = by_token (rw n refl) (one_had {part = a.Sorted} (no_sort d))
has_variable (g.sorted n e) d = by_token (rw n refl) (one_had {part = a.Sorted} (by_token refl (one_had (has_sort e))))

pub variable_begins : {tokens rest : List Lexeme} {v : Written} (z : Sign) → mark_at z ≡ None → SpellsVariable tokens v rest → Without (is_sign z) tokens
variable_begins z d (g.marked {x = y} e n) = without (no_mark y z e d)
variable_begins z d (g.unmarked n) = without refl
variable_begins z d (g.sorted n e) = without refl

-- ---- terms

-- a token stands there, and the first is no sign by which a variable or a term goes on
pub data Apart : List Lexeme → Type 0 where
  apart : {x : Lexeme} {tokens : List Lexeme} → is_sign s.Colon x ≡ false → is_sign s.Open x ≡ false → is_sign s.OpenBrace x ≡ false → Apart (x ∷ tokens)

-- a sign that closes tuples
pub record ClosesTuple (y : Sign) : Type 0 where
  pub no_colon : (code y == code s.Colon) ≡ false
  pub no_open : (code y == code s.Open) ≡ false
  pub no_brace : (code y == code s.OpenBrace) ≡ false
  pub no_comma : (code y == code s.Comma) ≡ false

pub angle : ClosesTuple s.Greater
angle = record { no_colon = refl; no_open = refl; no_brace = refl; no_comma = refl }

pub brace : ClosesTuple s.CloseBrace
brace = record { no_colon = refl; no_open = refl; no_brace = refl; no_comma = refl }

closed_apart : {y : Sign} {tokens : List Lexeme} → ClosesTuple y → Apart (sign y ∷ tokens)
closed_apart c = apart c.no_colon c.no_open c.no_brace

tuple_ends : {n : ℕ} {y : Sign} {rest : List Lexeme} → ClosesTuple y → Has (a.MoreTuple n y) (sign y ∷ rest) rest
tuple_ends {y = y} c = by_token (rw (c.no_comma, eq-eqb (code y) (code y) refl) refl) all_had

variable_applied : {n : ℕ} {tokens : List Lexeme} → Apart tokens → Has (a.Applied n) tokens tokens
variable_applied (apart c o b) = by_parts (rw (o, b) refl) (one_had {part = a.Sorted} (no_sort (without c)))

variable_term : {n : ℕ} {tokens rest : List Lexeme} {v : Written} → SpellsVariable tokens v rest → Apart rest → Has (a.Term n) tokens rest
variable_term (g.marked {x = y} e i) d = by_token (rw (no_mark y s.Open e refl, no_mark y s.Less e refl, is_some_of e) refl) (one_had {part = a.Name} (has_name i))
variable_term {n} (g.unmarked i) d = by_token (rw i refl) (one_had {part = a.Applied n} (variable_applied d))
variable_term {n} (g.sorted i e) d = by_token (rw i refl) (one_had {part = a.Applied n} (by_parts refl (one_had {part = a.Sorted} (by_token refl (one_had (has_sort e))))))

term_begins : {n : ℕ} {tokens rest : List Lexeme} {x : Term Written} → SpellsTerm n tokens x rest → Without (is_sign s.Close) tokens
term_begins g.fixed = without refl
term_begins (g.variable h) = variable_begins s.Close refl h
term_begins (g.brackets lt h) = without refl
term_begins (g.tuple lt h) = without refl
term_begins (g.application e lt h) = without refl
term_begins (g.braced e lt h k) = without refl

terms_begin : {n : ℕ} {tokens rest : List Lexeme} {xs : Terms Written} → SpellsTerms n tokens xs rest → Without (is_sign s.Close) tokens
terms_begin (g.last_term h) = term_begins h
terms_begin (g.next_term h k) = term_begins h

some_arguments : {n : ℕ} {tokens rest : List Lexeme} → Without (is_sign s.Close) tokens → HasAll (a.Term n ∷ a.MoreArguments n ∷ []) tokens rest → Has (a.Arguments n) tokens rest
some_arguments (without e) h = by_parts (rw e refl) h

tuple_first : {n : ℕ} {y : Sign} (tokens : List Lexeme) {rest : List Lexeme} → HasAll (a.Term n ∷ a.MoreTuple n y ∷ []) tokens rest → Has (a.Tuple n y) tokens rest
tuple_first {n} {y} tokens h = become_all (a.Tuple n y) (λ x. refl) tokens h

mutual
  pub has_term : {n : ℕ} {tokens rest : List Lexeme} {x : Term Written} → SpellsTerm n tokens x rest → Apart rest → Has (a.Term n) tokens rest
  has_term g.fixed d = by_token refl all_had
  has_term (g.variable h) d = variable_term h d
  has_term {n} (g.brackets lt h) d = by_token (rw (lt-ltb n 128 lt) refl) (and_all {part = a.Term (n + 1)} (has_term h (apart refl refl refl)) (one_had {part = a.Exactly s.Close} (by_token refl all_had)))
  has_term {n} (g.tuple lt h) d = by_token (rw (lt-ltb n 128 lt) refl) (one_had {part = a.Tuple (n + 1) s.Greater} (has_tuple angle h))
  has_term {n} (g.application e lt h) d = by_token (rw e refl) (one_had {part = a.Applied n} (by_token (rw (lt-ltb n 128 lt) refl) (one_had {part = a.Arguments (n + 1)} (has_arguments h))))
  has_term {n} (g.braced e lt h k) d =
      by_token (rw e refl) (one_had {part = a.Applied n} (by_token (rw (lt-ltb n 128 lt) refl) (and_all {part = a.Tuple (n + 1) s.CloseBrace} (has_tuple brace h) (one_had {part = a.Term (n + 1)} (has_term k d)))))

  pub has_tuple : {n : ℕ} {y : Sign} {tokens rest : List Lexeme} {x : Term Written} → ClosesTuple y → SpellsTuple n y tokens x rest → Has (a.Tuple n y) tokens rest
  has_tuple {tokens = ts} c (g.last_part h) = tuple_first ts (and_all (has_term h (closed_apart c)) (one_had (tuple_ends c)))
  has_tuple {n} {y} {tokens = ts} c (g.next_part h lt k) = tuple_first ts (and_all (has_term h (apart refl refl refl)) (one_had {part = a.MoreTuple n y} (by_token (rw (lt-ltb n 128 lt) refl) (one_had {part = a.Tuple (n + 1) y} (has_tuple c k)))))

  pub has_arguments : {n : ℕ} {tokens rest : List Lexeme} {xs : Terms Written} → SpellsArguments n tokens xs rest → Has (a.Arguments n) tokens rest
  has_arguments g.no_argument = by_token refl all_had
  has_arguments (g.some_arguments h) = some_arguments (terms_begin h) (has_terms h)

  has_terms : {n : ℕ} {tokens rest : List Lexeme} {xs : Terms Written} → SpellsTerms n tokens xs rest → HasAll (a.Term n ∷ a.MoreArguments n ∷ []) tokens rest
  has_terms (g.last_term h) = and_all (has_term h (apart refl refl refl)) (one_had (by_token refl all_had))
  has_terms (g.next_term h k) = and_all (has_term h (apart refl refl refl)) (one_had (by_token refl (has_terms k)))

-- ---- facts

has_annotation : {x : Lexeme} {tokens rest : List Lexeme} → SpellsAnnotation tokens x rest → Has a.Annotation tokens rest
has_annotation (g.annotation e) = by_token (rw e refl) all_had

pub annotations_left : {each tokens rest : List Lexeme} → AreParts SpellsAnnotation s.Comma s.CloseList tokens each rest → HasAll (a.Annotation ∷ a.MoreAnnotations ∷ []) tokens rest
annotations_left (last h) = and_all (has_annotation h) (one_had {part = a.MoreAnnotations} (by_token refl all_had))
annotations_left (next_part h k) = and_all (has_annotation h) (one_had {part = a.MoreAnnotations} (by_token refl (annotations_left k)))

no_annotations : {tokens : List Lexeme} → Without (is_sign s.OpenList) tokens → Has a.Annotations tokens tokens
no_annotations (without e) = by_parts (rw e refl) all_had

has_annotations : {tokens rest : List Lexeme} → SpellsAnnotations tokens rest → Without (is_sign s.OpenList) rest → Has a.Annotations tokens rest
has_annotations g.no_annotation d = no_annotations d
has_annotations (g.annotations h) d = by_token refl (annotations_left h)

pub has_opened : {n : ℕ} {tokens mid rest : List Lexeme} {xs : Terms Written} → n < 128 → SpellsArguments (n + 1) tokens xs mid → SpellsAnnotations mid rest → Without (is_sign s.OpenList) rest → Has (a.Opened n) (sign s.Open ∷ tokens) rest
has_opened {n} lt h i d = by_token (rw (lt-ltb n 128 lt) refl) (and_all {part = a.Arguments (n + 1)} (has_arguments h) (one_had {part = a.Annotations} (has_annotations i d)))

pub has_fact : {n : ℕ} {tokens rest : List Lexeme} {x : Fact Written} → SpellsFact n tokens x rest → Without (is_sign s.OpenList) rest → Has (a.Fact n) tokens rest
has_fact {n} (g.linear e lt h i) d = by_token (rw e refl) (one_had {part = a.Opened n} (has_opened lt h i d))
has_fact {n} (g.persistent e lt h i) d = by_token refl (and_all {part = a.FactName} (has_fact_name e) (one_had {part = a.Opened n} (has_opened lt h i d)))

-- ---- binders

after_binder : {tokens mid rest : List Lexeme} {v : Written} → SpellsVariable tokens v mid → Without (is_sign s.Colon) mid → Has a.Binders mid rest → Has a.Binders tokens rest
after_binder (g.marked {x = y} e n) d b = by_token (rw (no_mark y s.Dot e refl, is_some_of e) refl) (and_all {part = a.Name} (has_name n) (one_had {part = a.Binders} b))
after_binder (g.unmarked n) d b = by_token (rw n refl) (and_all {part = a.Sorted} (no_sort d) (one_had {part = a.Binders} b))
after_binder (g.sorted n e) d b = by_token (rw n refl) (and_all {part = a.Sorted} (by_token refl (one_had (has_sort e))) (one_had {part = a.Binders} b))

binders_begin : {tokens rest : List Lexeme} {vs : List Written} → SpellsBinders tokens vs rest → Without (is_sign s.Colon) tokens
binders_begin (g.one_binder h) = variable_begins s.Colon refl h
binders_begin (g.more_binders h k) = variable_begins s.Colon refl h

binders_left : {tokens rest : List Lexeme} {vs : List Written} → SpellsBinders tokens vs rest → Has a.Binders tokens rest
binders_left (g.one_binder h) = after_binder h (without refl) (by_token refl all_had)
binders_left (g.more_binders h k) = after_binder h (binders_begin k) (binders_left k)

pub has_binders : {tokens rest : List Lexeme} {vs : List Written} → SpellsBinders tokens vs rest → HasAll (a.Variable ∷ a.Binders ∷ []) tokens rest
has_binders (g.one_binder h) = and_all (has_variable h (without refl)) (one_had (by_token refl all_had))
has_binders (g.more_binders h k) = and_all (has_variable h (binders_begin k)) (one_had (binders_left k))

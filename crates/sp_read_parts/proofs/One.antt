-- Each part is read in one way.
use Rattle.std.proofs.Common.{◌≡◌, ℕ, ◌+◌, Bool, List, [], ◌∷◌, Option, Some, None, refl, sym, ap, subst, ◌∙◌}
use Rattle.sp_spec_text.specs.Signs.{Sign, Wide}
use Rattle.sp_spec_text.specs.Signs as s
use Rattle.sp_spec_text.specs.Token.{Lexeme, word, constant, sign, solve, wide, block}
use Rattle.sp_spec.specs.Term.{Term, var, app, Terms, none, more}
use Rattle.sp_spec.specs.Rule.{Fact}
use Rattle.sp_spec.specs.Formula.{Mark, Written}
use Rattle.sp_spec_text.specs.Names.{mark_at}
use Rattle.sp_spec_text.specs.Lists.{AreParts, last, next, AreItems, empty, some}
use Rattle.sp_spec_text.specs.Shapes.{written, fact}
use Rattle.sp_read_parts.specs.Parts.{IsNameFirst, name, IsSort, sort, IsVariable, marked, sorted, unmarked, IsNoApplication, IsTerm, fixed, variable, brackets, tuple, application, braced, IsTuple, last_part, next_part, AreArguments, arguments, AreTermsTo, no_term, some_terms, AreTerms, last_term, next_term, AreAnnotations, last_annotation, next_annotation, IsAnnotated, unannotated, annotated, IsNamedFact, named, IsFact, linear, persistent, AreUntil, last_one, one_more, AreBinders}

-- what is read, and what follows it, are fixed by the tokens
pub record One {A : Type 0} (R : List Lexeme → A → List Lexeme → Type 0) : Type 0 where
  pub one : {tokens r q : List Lexeme} {x y : A} → R tokens x r → R tokens y q → (x ≡ y) × (r ≡ q)

pub name_one : {tokens r q : List Lexeme} {w u : List ℕ} → IsNameFirst tokens w r → IsNameFirst tokens u q → (w ≡ u) × (r ≡ q)
name_one (name h) (name k) = (refl, refl)

some_one : {m o : Mark} {c : Option Mark} → c ≡ Some m → c ≡ Some o → m ≡ o
some_one e f = let g = sym e ∙ f in cc

pub sort_one : {tokens r q : List Lexeme} {m o : Mark} → IsSort tokens m r → IsSort tokens o q → (m ≡ o) × (r ≡ q)
sort_one (sort e) (sort f) = (some_one e f, refl)

pub variable_one : {tokens r q : List Lexeme} {v w : Written} → IsVariable tokens v r → IsVariable tokens w q → (v ≡ w) × (r ≡ q)
variable_one (marked e h) (marked f k) = let o = name_one h k in let g = some_one e f in (rw (o.0, g) refl, o.1)
variable_one (marked e h) (sorted k f) = elim k [ ]
variable_one (marked e h) (unmarked k f) = elim k [ ]
variable_one (sorted k f) (marked e h) = elim k [ ]
variable_one (unmarked k f) (marked e h) = elim k [ ]
variable_one (sorted (name {w = w} h) e) (sorted (name k) f) = let o = sort_one e f in (ap (written w) o.0, o.1)
variable_one (sorted {behind = b} (name h) e) (unmarked (name k) f) = absurd (f b refl)
variable_one (unmarked (name k) f) (sorted {behind = b} (name h) e) = absurd (f b refl)
variable_one (unmarked (name h) e) (unmarked (name k) f) = (refl, refl)

-- no variable begins with a constant, a goal, a sign of logic or a block, nor with a sign that marks none
pub variable_constant : {c : List ℕ} {tokens r : List Lexeme} {v : Written} → IsVariable (constant c ∷ tokens) v r → ⊥
variable_constant (sorted h e) = elim h [ ]
variable_constant (unmarked h e) = elim h [ ]

pub variable_solve : {s : List ℕ} {tokens r : List Lexeme} {v : Written} → IsVariable (solve s ∷ tokens) v r → ⊥
variable_solve (sorted h e) = elim h [ ]
variable_solve (unmarked h e) = elim h [ ]

pub variable_wide : {x : Wide} {tokens r : List Lexeme} {v : Written} → IsVariable (wide x ∷ tokens) v r → ⊥
variable_wide (sorted h e) = elim h [ ]
variable_wide (unmarked h e) = elim h [ ]

pub variable_block : {tokens r : List Lexeme} {v : Written} → IsVariable (block ∷ tokens) v r → ⊥
variable_block (sorted h e) = elim h [ ]
variable_block (unmarked h e) = elim h [ ]

pub variable_sign : {x : Sign} {tokens r : List Lexeme} {v : Written} → mark_at x ≡ None → IsVariable (sign x ∷ tokens) v r → ⊥
variable_sign n (marked e h) = let g = sym n ∙ e in cc
variable_sign n (sorted h e) = elim h [ ]
variable_sign n (unmarked h e) = elim h [ ]

pub variables' : One IsVariable
variables' = record { one = variable_one }

-- ---- terms

not_applied : {n : ℕ} {w : List ℕ} {tokens r : List Lexeme} {xs : Terms Written} → IsNoApplication (word w ∷ tokens) → AreArguments n tokens xs r → ⊥
not_applied {w = w} d (arguments {tokens = ts} lt h) = d.no_bracket w ts refl

mutual
  pub term_one : {n : ℕ} {tokens r q : List Lexeme} {x y : Term Written} → IsTerm n tokens x r → IsTerm n tokens y q → (x ≡ y) × (r ≡ q)
  term_one fixed fixed = (refl, refl)
  term_one fixed (variable d k) = absurd (variable_constant k)
  term_one (variable d h) fixed = absurd (variable_constant h)
  term_one (variable d h) (variable e k) = let o = variable_one h k in (ap (λ (v : Written). var v) o.0, o.1)
  term_one (variable d h) (brackets lt k) = absurd (variable_sign refl h)
  term_one (variable d h) (tuple lt k) = absurd (variable_sign refl h)
  term_one (variable d h) (application i k) = absurd (not_applied d k)
  term_one (variable d h) (braced {w = w} {tokens = ts} i lt k l) = absurd (d.no_brace w ts refl)
  term_one (brackets lt h) (variable d k) = absurd (variable_sign refl k)
  term_one (brackets lt h) (brackets gt k) = let o = term_one h k in let e = o.1 in (o.0, cc)
  term_one (tuple lt h) (variable d k) = absurd (variable_sign refl k)
  term_one (tuple lt h) (tuple gt k) = tuple_one (λ e. cc) h k
  term_one (application i h) (variable d k) = absurd (not_applied d h)
  term_one (application {w = w} i h) (application j k) = let o = arguments_one h k in (ap (λ (xs : Terms Written). app w xs) o.0, o.1)
  term_one (application i h) (braced j lt k l) = elim h [ ]
  term_one (braced {w = w} {tokens = ts} i lt k l) (variable d h) = absurd (d.no_brace w ts refl)
  term_one (braced j lt k l) (application i h) = elim h [ ]
  term_one (braced {n = n} {w = w} i lt h k) (braced {y = y} {mid = m} {rest = q} j gt l o) =
      let a = tuple_one (λ e. cc) h l in
      let b = term_one k (subst (λ (ts : List Lexeme). IsTerm (n + 1) ts y q) (sym a.1) o) in
      (rw (a.0, b.0) refl, b.1)

  pub tuple_one : {n : ℕ} {close : Sign} {tokens r q : List Lexeme} {x y : Term Written} → (s.Comma ≡ close → ⊥) → IsTuple n close tokens x r → IsTuple n close tokens y q → (x ≡ y) × (r ≡ q)
  tuple_one d (last_part h) (last_part k) = let o = term_one h k in let e = o.1 in (o.0, cc)
  tuple_one d (last_part h) (next_part k lt l) = let e = (term_one h k).1 in absurd (d cc)
  tuple_one d (next_part k lt l) (last_part h) = let e = (term_one k h).1 in absurd (d cc)
  tuple_one {n} {close} d (next_part {mid = m} h lt k) (next_part {y = y} {mid = l} {rest = q} i gt j) =
      let a = term_one h i in
      let e = a.1 in
      let f : l ≡ m = cc in
      let b = tuple_one d k (subst (λ (ts : List Lexeme). IsTuple (n + 1) close ts y q) f j) in
      (rw (a.0, b.0) refl, b.1)

  pub arguments_one : {n : ℕ} {tokens r q : List Lexeme} {xs ys : Terms Written} → AreArguments n tokens xs r → AreArguments n tokens ys q → (xs ≡ ys) × (r ≡ q)
  arguments_one (arguments lt h) (arguments gt k) = list_one h k

  pub list_one : {n : ℕ} {tokens r q : List Lexeme} {xs ys : Terms Written} → AreTermsTo n tokens xs r → AreTermsTo n tokens ys q → (xs ≡ ys) × (r ≡ q)
  list_one no_term no_term = (refl, refl)
  list_one (no_term {rest = r}) (some_terms d k) = absurd (d r refl)
  list_one (some_terms d k) (no_term {rest = r}) = absurd (d r refl)
  list_one (some_terms d h) (some_terms e k) = terms_one h k

  pub terms_one : {n : ℕ} {tokens r q : List Lexeme} {xs ys : Terms Written} → AreTerms n tokens xs r → AreTerms n tokens ys q → (xs ≡ ys) × (r ≡ q)
  terms_one (last_term h) (last_term k) = let o = term_one h k in let e = o.1 in (ap (λ (x : Term Written). more x none) o.0, cc)
  terms_one (last_term h) (next_term k l) = let e = (term_one h k).1 in absurd cc
  terms_one (next_term k l) (last_term h) = let e = (term_one k h).1 in absurd cc
  terms_one {n} (next_term {mid = m} h k) (next_term {xs = ys} {mid = l} {rest = q} i j) =
      let a = term_one h i in
      let e = a.1 in
      let f : l ≡ m = cc in
      let b = terms_one k (subst (λ (ts : List Lexeme). AreTerms n ts ys q) f j) in
      (rw (a.0, b.0) refl, b.1)

-- no term begins with a sign that neither marks a variable nor opens a bracket or a tuple
pub term_sign : {n : ℕ} {x : Sign} {tokens r : List Lexeme} {y : Term Written} → mark_at x ≡ None → (x ≡ s.Open → ⊥) → (x ≡ s.Less → ⊥) → IsTerm n (sign x ∷ tokens) y r → ⊥
term_sign e o l (variable d h) = variable_sign e h
term_sign e o l (brackets lt h) = o refl
term_sign e o l (tuple lt h) = l refl

pub terms : {n : ℕ} → One (IsTerm n)
terms = record { one = term_one }

-- ---- lists

pub parts_one : {A : Type 0} {R : List Lexeme → A → List Lexeme → Type 0} {between close : Sign} → One R → (between ≡ close → ⊥) → {tokens r q : List Lexeme} {xs ys : List A}
    → AreParts R between close tokens xs r → AreParts R between close tokens ys q → (xs ≡ ys) × (r ≡ q)
parts_one {A} o d (last h) (last k) = let i = o.one h k in let e = i.1 in (ap (λ (x : A). x ∷ []) i.0, cc)
parts_one o d (last h) (next k l) = let e = (o.one h k).1 in absurd (d cc)
parts_one o d (next h k) (last l) = let e = (o.one h l).1 in absurd (d cc)
parts_one {A} {R} {between} {close} o d (next {mid = m} h k) (next {xs = ys} {mid = n} {rest = q} i l) =
    let a = o.one h i in
    let e = a.1 in
    let f : n ≡ m = cc in
    let b = parts_one o d k (subst (λ (ts : List Lexeme). AreParts R between close ts ys q) f l) in
    let g = a.0 in let j = b.0 in (cc, b.1)

-- before the closing sign there are no items
pub items_closed : {A : Type 0} {R : List Lexeme → A → List Lexeme → Type 0} {close : Sign} → ((tokens r : List Lexeme) (x : A) → R (sign close ∷ tokens) x r → ⊥)
    → {tokens q : List Lexeme} {ys : List A} → AreItems R close tokens ys q → (r : List Lexeme) → tokens ≡ sign close ∷ r → ([] ≡ ys) × (r ≡ q)
items_closed c empty r e = (refl, cc)
items_closed {A} {R} {close} c (some (last {x = x} {rest = q} k)) r e = absurd (c r (sign close ∷ q) x (subst (λ (ts : List Lexeme). R ts x (sign close ∷ q)) e k))
items_closed {A} {R} c (some (next {x = x} {mid = m} k l)) r e = absurd (c r (sign s.Comma ∷ m) x (subst (λ (ts : List Lexeme). R ts x (sign s.Comma ∷ m)) e k))

pub items_one : {A : Type 0} {R : List Lexeme → A → List Lexeme → Type 0} {close : Sign} → One R → (s.Comma ≡ close → ⊥) → ((tokens r : List Lexeme) (x : A) → R (sign close ∷ tokens) x r → ⊥)
    → {tokens r q : List Lexeme} {xs ys : List A} → AreItems R close tokens xs r → AreItems R close tokens ys q → (xs ≡ ys) × (r ≡ q)
items_one o d c (empty {rest = r}) k = items_closed c k r refl
items_one o d c (some h) (empty {rest = r}) = let e = items_closed c (some h) r refl in (sym e.0, sym e.1)
items_one o d c (some h) (some k) = parts_one o d h k

-- ---- facts and binders

annotations_one : {u v : Unit {0}} {tokens r q : List Lexeme} → AreAnnotations tokens u r → AreAnnotations tokens v q → r ≡ q
annotations_one (last_annotation e) (last_annotation f) = refl
annotations_one (next_annotation e h) (next_annotation f k) = annotations_one h k

pub annotated_one : {u v : Unit {0}} {tokens r q : List Lexeme} → IsAnnotated tokens u r → IsAnnotated tokens v q → r ≡ q
annotated_one (unannotated d) (unannotated e) = refl
annotated_one (unannotated d) (annotated {tokens = ts} k) = absurd (d ts refl)
annotated_one (annotated {tokens = ts} h) (unannotated d) = absurd (d ts refl)
annotated_one (annotated h) (annotated k) = annotations_one h k

pub named_one : {n : ℕ} {p : Bool} {tokens r q : List Lexeme} {f g : Fact Written} → IsNamedFact n p tokens f r → IsNamedFact n p tokens g q → (f ≡ g) × (r ≡ q)
named_one {p = p} {q = q} (named {w = w} e h a) (named f k b) =
    let o = arguments_one h k in
    (ap (λ (xs : Terms Written). fact w p xs) o.0, annotated_one a (subst (λ (ts : List Lexeme). IsAnnotated ts tt q) (sym o.1) b))

pub fact_one : {n : ℕ} {tokens r q : List Lexeme} {f g : Fact Written} → IsFact n tokens f r → IsFact n tokens g q → (f ≡ g) × (r ≡ q)
fact_one (linear h) (linear k) = named_one h k
fact_one (linear h) (persistent k) = elim h [ ]
fact_one (persistent h) (linear k) = elim k [ ]
fact_one (persistent h) (persistent k) = named_one h k

-- of the signs only `!` begins a fact
pub fact_sign : {n : ℕ} {x : Sign} {tokens r : List Lexeme} {f : Fact Written} → (x ≡ s.Bang → ⊥) → IsFact n (sign x ∷ tokens) f r → ⊥
fact_sign d (linear h) = elim h [ ]
fact_sign d (persistent h) = d refl

pub facts' : {n : ℕ} → One (IsFact n)
facts' = record { one = fact_one }

-- ---- parts one behind the other

-- the closing token begins no part
until_started : {A : Type 0} {R : List Lexeme → A → List Lexeme → Type 0} {close : Lexeme} → ((tokens r : List Lexeme) (x : A) → R (close ∷ tokens) x r → ⊥)
    → {tokens r : List Lexeme} {xs : List A} → AreUntil R close (close ∷ tokens) xs r → ⊥
until_started {close = close} c {tokens} (last_one {x = x} {rest = r} h) = c tokens (close ∷ r) x h
until_started c {tokens} (one_more {x = x} {mid = m} h k) = c tokens m x h

pub until_one : {A : Type 0} {R : List Lexeme → A → List Lexeme → Type 0} {close : Lexeme} → One R → ((tokens r : List Lexeme) (x : A) → R (close ∷ tokens) x r → ⊥)
    → {tokens r q : List Lexeme} {xs ys : List A} → AreUntil R close tokens xs r → AreUntil R close tokens ys q → (xs ≡ ys) × (r ≡ q)
until_one {A} o c (last_one h) (last_one k) = let i = o.one h k in let e = i.1 in (ap (λ (x : A). x ∷ []) i.0, cc)
until_one {A} {R} {close} o c {q = q} (last_one h) (one_more {xs = ys} k l) = absurd (until_started c (subst (λ (ts : List Lexeme). AreUntil R close ts ys q) (sym (o.one h k).1) l))
until_one {A} {R} {close} o c {r = r} (one_more {xs = xs} k l) (last_one h) = absurd (until_started c (subst (λ (ts : List Lexeme). AreUntil R close ts xs r) (o.one k h).1 l))
until_one {A} {R} {close} o c {q = q} (one_more h k) (one_more {xs = ys} i l) =
    let a = o.one h i in
    let b = until_one o c k (subst (λ (ts : List Lexeme). AreUntil R close ts ys q) (sym a.1) l) in
    let e = a.0 in let f = b.0 in (cc, b.1)

-- no variable begins with a sign that marks none, and no binder with a dot
pub binders_one : {tokens r q : List Lexeme} {vs ws : List Written} → AreBinders tokens vs r → AreBinders tokens ws q → (vs ≡ ws) × (r ≡ q)
binders_one h k = until_one variables' (λ ts r x i. variable_sign refl i) h k

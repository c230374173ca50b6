-- Formulas without formulas in them: each is read in one way, and each way to get stuck leaves no reading.
use Rattle.std.proofs.Common.{◌≡◌, ℕ, ◌≤◌, List, ◌∷◌, codes, refl, sym, ap, subst, arith}
use Rattle.sp_spec_text.specs.Signs.{Sign}
use Rattle.sp_spec_text.specs.Token.{Lexeme, word, sign}
use Rattle.sp_spec.specs.Rule.{Fact}
use Rattle.sp_spec.specs.Formula.{Written, Formula, truth, falsity}
use Rattle.sp_spec_text.specs.Lists.{IsNotFirst, NoReading}
use Rattle.sp_read_parts.specs.Parts.{arguments, named, IsFact, linear, persistent}
use Rattle.sp_read_atoms.specs.Atoms.{Infix, two_sides, OrElse, first, second, IsAction, IsConstant, true_word, false_word, IsAtom}
use Rattle.sp_read_parts.specs.Formulas.{formula}
use Rattle.sp_read_parts.specs.declared.written.ReadFormula.TheVariants.{True, False}
use Rattle.sp_read_parts.proofs.Shown.{true_shown, false_shown}
use Rattle.sp_read_parts.proofs.One.{One, terms, facts', variables'}

-- ---- two sides

pub infix_one : {A B C : Type 0} {P : List Lexeme → A → List Lexeme → Type 0} {x : Sign} {Q : List Lexeme → B → List Lexeme → Type 0} {f : A → B → C} → One P → One Q → One (Infix P x Q f)
infix_one {A} {B} {C} {P} {x} {Q} {f} o w = record { one = λ {tokens} {r} {q} h k. at h k }
  where
    at : {ts r q : List Lexeme} {u v : C} → Infix P x Q f ts u r → Infix P x Q f ts v q → (u ≡ v) × (r ≡ q)
    at (two_sides {mid = m} h k) (two_sides {b = d} {mid = l} {rest = q} i j) =
        let a = o.one h i in
        let e = a.1 in
        let y : l ≡ m = cc in
        let b = w.one k (subst (λ (ts : List Lexeme). Q ts d q) y j) in
        (rw (a.0, b.0) refl, b.1)

pub infix_at : {A B C : Type 0} (P : List Lexeme → A → List Lexeme → Type 0) (x : Sign) (Q : List Lexeme → B → List Lexeme → Type 0) (f : A → B → C) {a : A} {b : B} {tokens mid after rest : List Lexeme}
    → P tokens a mid → mid ≡ sign x ∷ after → Q after b rest → Infix P x Q f tokens (f a b) rest
infix_at P x Q f {a = a} {tokens = tokens} h e k = two_sides (subst (λ (ts : List Lexeme). P tokens a ts) e h) k

pub infix_no_left : {A B C : Type 0} {P : List Lexeme → A → List Lexeme → Type 0} {x : Sign} {Q : List Lexeme → B → List Lexeme → Type 0} {f : A → B → C} {tokens : List Lexeme} → NoReading P tokens → NoReading (Infix P x Q f) tokens
infix_no_left {A} {B} {C} {P} {x} {Q} {f} n = record { none = λ u r h. at h n }
  where
    at : {ts r : List Lexeme} {u : C} → Infix P x Q f ts u r → NoReading P ts → ⊥
    at (two_sides {a = a} {mid = m} h k) n = n.none a (sign x ∷ m) h

pub infix_no_sign : {A B C : Type 0} {P : List Lexeme → A → List Lexeme → Type 0} {x : Sign} {Q : List Lexeme → B → List Lexeme → Type 0} {f : A → B → C} → One P → {a : A} {tokens mid : List Lexeme} → P tokens a mid → IsNotFirst (sign x) mid → NoReading (Infix P x Q f) tokens
infix_no_sign {A} {B} {C} {P} {x} {Q} {f} o h d = record { none = λ u r k. at k h d }
  where
    at : {ts r mid : List Lexeme} {u : C} {a : A} → Infix P x Q f ts u r → P ts a mid → IsNotFirst (sign x) mid → ⊥
    at (two_sides {mid = m} i k) h d = d m (o.one h i).1

pub infix_no_right : {A B C : Type 0} {P : List Lexeme → A → List Lexeme → Type 0} {x : Sign} {Q : List Lexeme → B → List Lexeme → Type 0} {f : A → B → C} → One P → {a : A} {tokens mid after : List Lexeme} → P tokens a mid → mid ≡ sign x ∷ after → NoReading Q after → NoReading (Infix P x Q f) tokens
infix_no_right {A} {B} {C} {P} {x} {Q} {f} o h e n = record { none = λ u r k. at k h e n }
  where
    at : {ts r mid after : List Lexeme} {u : C} {a : A} → Infix P x Q f ts u r → P ts a mid → mid ≡ sign x ∷ after → NoReading Q after → ⊥
    at {after = after} (two_sides {b = b} {mid = m} {rest = r} i k) h e n = let y = (o.one h i).1 in let l : m ≡ after = cc in n.none b r (subst (λ (ts : List Lexeme). Q ts b r) l k)

-- ---- one way or the other

pub or_else_one : {A : Type 0} {P Q : List Lexeme → A → List Lexeme → Type 0} → One P → One Q → One (OrElse P Q)
or_else_one {A} {P} {Q} o w = record { one = λ {tokens} {r} {q} h k. at h k }
  where
    at : {ts r q : List Lexeme} {u v : A} → OrElse P Q ts u r → OrElse P Q ts v q → (u ≡ v) × (r ≡ q)
    at (first h) (first k) = o.one h k
    at (first {x = x} {rest = r} h) (second n k) = absurd (n.none x r h)
    at (second n k) (first {x = x} {rest = r} h) = absurd (n.none x r h)
    at (second n h) (second l k) = w.one h k

pub or_else_none : {A : Type 0} {P Q : List Lexeme → A → List Lexeme → Type 0} {tokens : List Lexeme} → NoReading P tokens → NoReading Q tokens → NoReading (OrElse P Q) tokens
or_else_none {A} {P} {Q} n l = record { none = λ u r h. at h n l }
  where
    at : {ts r : List Lexeme} {u : A} → OrElse P Q ts u r → NoReading P ts → NoReading Q ts → ⊥
    at (first {x = x} {rest = r} h) n l = n.none x r h
    at (second {x = x} {rest = r} m h) n l = l.none x r h

-- ---- the four kinds

pub constant_at_true : {tokens rest : List Lexeme} → tokens ≡ word (codes "T") ∷ rest → IsConstant tokens (formula True) rest
constant_at_true e = rw true_shown (rw e true_word)

pub constant_at_false : {tokens rest : List Lexeme} → tokens ≡ word (codes "F") ∷ rest → IsConstant tokens (formula False) rest
constant_at_false e = rw false_shown (rw e false_word)

pub no_constant : {tokens : List Lexeme} → IsNotFirst (word (codes "T")) tokens → IsNotFirst (word (codes "F")) tokens → NoReading IsConstant tokens
no_constant t f = record { none = λ u r h. at h t f }
  where
    at : {ts r : List Lexeme} {u : Formula} → IsConstant ts u r → IsNotFirst (word (codes "T")) ts → IsNotFirst (word (codes "F")) ts → ⊥
    at (true_word {rest = r}) t f = t r refl
    at (false_word {rest = r}) t f = f r refl

abbrev pub first_byte : List Lexeme → ℕ
first_byte (word (b ∷ bytes) ∷ rest) = b
first_byte _ = 0

-- the two words are not one
not_both_words : {r q : List Lexeme} → word (codes "T") ∷ r ≡ word (codes "F") ∷ q → ⊥
not_both_words e = let d : 84 ≡ 70 = ap first_byte e in omega (arith, d)

constant_true : {tokens r q : List Lexeme} {v : Formula} → tokens ≡ word (codes "T") ∷ r → IsConstant tokens v q → (truth ≡ v) × (r ≡ q)
constant_true e true_word = (refl, cc)
constant_true e false_word = absurd (not_both_words (sym e))

constant_false : {tokens r q : List Lexeme} {v : Formula} → tokens ≡ word (codes "F") ∷ r → IsConstant tokens v q → (falsity ≡ v) × (r ≡ q)
constant_false e true_word = absurd (not_both_words e)
constant_false e false_word = (refl, cc)

pub constant_one : One IsConstant
constant_one = record { one = λ {tokens} {r} {q} h k. at h k }
  where
    at : {ts r q : List Lexeme} {u v : Formula} → IsConstant ts u r → IsConstant ts v q → (u ≡ v) × (r ≡ q)
    at true_word k = constant_true refl k
    at false_word k = constant_false refl k

pub fact_too_deep : {n : ℕ} {tokens : List Lexeme} → 128 ≤ n → NoReading (IsFact n) tokens
fact_too_deep {n} le = record { none = λ u r h. at h }
  where
    at : {ts r : List Lexeme} {u : Fact Written} → IsFact n ts u r → ⊥
    at (linear (named e (arguments lt h) a)) = omega (arith, le, lt)
    at (persistent (named e (arguments lt h) a)) = omega (arith, le, lt)

pub action_too_deep : {n : ℕ} {tokens : List Lexeme} → 128 ≤ n → NoReading (IsAction n) tokens
action_too_deep le = infix_no_left (fact_too_deep le)

pub atom_one : {n : ℕ} → One (IsAtom n)
atom_one = or_else_one (infix_one terms terms) (or_else_one (infix_one variables' variables') (or_else_one (infix_one facts' variables') constant_one))

pub ruleset equalities = (infix_at, infix_no_left, infix_no_sign, infix_no_right, terms)

pub ruleset orders = (infix_at, infix_no_left, infix_no_sign, infix_no_right, variables')

pub ruleset actions = (infix_at, infix_no_left, infix_no_sign, infix_no_right, facts', action_too_deep)

pub ruleset constants = (constant_at_true, constant_at_false, no_constant)

pub ruleset atoms = (first, second, or_else_none)

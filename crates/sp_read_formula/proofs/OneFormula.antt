-- Whole formulas: each part is read in one way, and each way to get stuck leaves no reading.
use Rattle.std.proofs.Common.{◌≡◌, ℕ, ◌+◌, Bool, true, false, List, ◌∷◌, codes, refl, sym, ap, subst}
use Rattle.sp_spec_text.specs.Token.{Lexeme, word}
use Rattle.sp_spec.specs.Formula.{Formula, not_so}
use Rattle.sp_spec_text.specs.Lists.{IsNotFirst, NoReading}
use Rattle.sp_read_parts.specs.Parts.{AreBinders}
use Rattle.sp_read_formula.specs.Reading.{IsQuantifier, all_word, ex_word, Part, a_group, a_binding, an_implication, a_whole, below, Reads, grouped, bound, shallow, from_group, from_binding, positive, negative, chained, lone, implying, single, double, GoesOn, ended, went}
use Rattle.sp_read_parts.specs.Formulas.{Joint, join}
use Rattle.sp_read_parts.proofs.One.{One, binders_one}
use Rattle.sp_read_atoms.proofs.Atomic.{atom_one}

-- ---- quantifiers

all_is_not_ex : {r q : List Lexeme} → word (codes "All") ∷ r ≡ word (codes "Ex") ∷ q → ⊥
all_is_not_ex e = cc

quantifier_all : {tokens r q : List Lexeme} {l : Bool} → tokens ≡ word (codes "All") ∷ r → IsQuantifier tokens l q → (true ≡ l) × (r ≡ q)
quantifier_all e all_word = (refl, cc)
quantifier_all e ex_word = absurd (all_is_not_ex (sym e))

quantifier_ex : {tokens r q : List Lexeme} {l : Bool} → tokens ≡ word (codes "Ex") ∷ r → IsQuantifier tokens l q → (false ≡ l) × (r ≡ q)
quantifier_ex e all_word = absurd (all_is_not_ex e)
quantifier_ex e ex_word = (refl, cc)

pub quantifier_one : {tokens r q : List Lexeme} {k l : Bool} → IsQuantifier tokens k r → IsQuantifier tokens l q → (k ≡ l) × (r ≡ q)
quantifier_one all_word k = quantifier_all refl k
quantifier_one ex_word k = quantifier_ex refl k

pub all_at : {tokens rest : List Lexeme} → tokens ≡ word (codes "All") ∷ rest → IsQuantifier tokens true rest
all_at e = rw e all_word

pub ex_at : {tokens rest : List Lexeme} → tokens ≡ word (codes "Ex") ∷ rest → IsQuantifier tokens false rest
ex_at e = rw e ex_word

pub no_quantifier : {tokens : List Lexeme} → IsNotFirst (word (codes "All")) tokens → IsNotFirst (word (codes "Ex")) tokens → NoReading IsQuantifier tokens
no_quantifier a e = record { none = λ u r h. at h a e }
  where
    at : {ts r : List Lexeme} {k : Bool} → IsQuantifier ts k r → IsNotFirst (word (codes "All")) ts → IsNotFirst (word (codes "Ex")) ts → ⊥
    at (all_word {rest = r}) a e = a r refl
    at (ex_word {rest = r}) a e = e r refl

pub ruleset quantifiers = (all_at, ex_at, no_quantifier)

-- ---- each part is read in one way

-- a group begins with a bracket, and a binding with a word
group_not_binding : {n : ℕ} {tokens r q : List Lexeme} {f g : Formula} → Reads a_group n tokens f r → Reads a_binding n tokens g q → ⊥
group_not_binding (grouped lt h) (bound lu k b i) = elim k [ ]

mutual
  pub reads_one : {p : Part} {n : ℕ} {tokens r q : List Lexeme} {f g : Formula} → Reads p n tokens f r → Reads p n tokens g q → (f ≡ g) × (r ≡ q)
  reads_one (grouped lt h) (grouped lu k) = let o = reads_one h k in let e = o.1 in (o.0, cc)
  reads_one (bound {n = n} {vs = vs} {f = f} {inner = i} {body = b} lt a bs h) (bound {k = l} {vs = ws} {f = g} {inner = j} {body = c} {rest = q} lu d cs k) =
      let o = quantifier_one a d in
      let w = binders_one bs (subst (λ (ts : List Lexeme). AreBinders ts ws c) (sym o.1) cs) in
      let z = reads_one h (subst (λ (ts : List Lexeme). Reads a_whole (n + 1) ts g q) (sym w.1) k) in
      (rw (o.0, w.0, z.0) refl, z.1)
  reads_one (shallow h) (shallow k) = atom_one.one h k
  reads_one (shallow {f = f} {rest = r} h) (from_group d k) = absurd (d.none f r h)
  reads_one (shallow {f = f} {rest = r} h) (from_binding d k) = absurd (d.none f r h)
  reads_one (from_group d k) (shallow {f = f} {rest = r} h) = absurd (d.none f r h)
  reads_one (from_group d h) (from_group e k) = reads_one h k
  reads_one (from_group d h) (from_binding e k) = absurd (group_not_binding h k)
  reads_one (from_binding d k) (shallow {f = f} {rest = r} h) = absurd (d.none f r h)
  reads_one (from_binding d h) (from_group e k) = absurd (group_not_binding k h)
  reads_one (from_binding d h) (from_binding e k) = reads_one h k
  reads_one (positive d h) (positive e k) = reads_one h k
  reads_one (positive d h) (negative {tokens = ts} k) = absurd (d ts refl)
  reads_one (negative {tokens = ts} k) (positive d h) = absurd (d ts refl)
  reads_one (negative h) (negative k) = let o = reads_one h k in (ap not_so o.0, o.1)
  reads_one (chained {o = o} {n = n} {f = f} {mid = m} h k) (chained {f = x} {g = g} {mid = l} {rest = q} i j) =
      let a = reads_one h i in
      goes_one k (subst (λ (ts : List Lexeme). GoesOn o n f ts g q) (sym a.1) (subst (λ (y : Formula). GoesOn o n y l g q) (sym a.0) j))
  reads_one (lone h d) (lone k e) = reads_one h k
  reads_one (lone h d) (implying {mid = m} k lt i) = absurd (d m (reads_one h k).1)
  reads_one (implying {mid = m} k lt i) (lone h d) = absurd (d m (sym (reads_one k h).1))
  reads_one (implying {n = n} {mid = m} h lt i) (implying {g = g} {mid = l} {rest = q} k lu j) =
      let a = reads_one h k in
      let e = a.1 in
      let y : l ≡ m = cc in
      let b = reads_one i (subst (λ (ts : List Lexeme). Reads an_implication (n + 1) ts g q) y j) in
      (rw (a.0, b.0) refl, b.1)
  reads_one (single h d) (single k e) = reads_one h k
  reads_one (single h d) (double {mid = m} k i) = absurd (d m (reads_one h k).1)
  reads_one (double {mid = m} k i) (single h d) = absurd (d m (sym (reads_one k h).1))
  reads_one (double {n = n} {mid = m} h i) (double {g = g} {mid = l} {rest = q} k j) =
      let a = reads_one h k in
      let e = a.1 in
      let y : l ≡ m = cc in
      let b = reads_one i (subst (λ (ts : List Lexeme). Reads an_implication n ts g q) y j) in
      (rw (a.0, b.0) refl, b.1)

  goes_one : {o : Joint} {n : ℕ} {x f g : Formula} {tokens r q : List Lexeme} → GoesOn o n x tokens f r → GoesOn o n x tokens g q → (f ≡ g) × (r ≡ q)
  goes_one (ended d) (ended e) = (refl, refl)
  goes_one (ended d) (went {after = ts} e h k) = absurd (d ts e)
  goes_one (went {after = ts} e h k) (ended d) = absurd (d ts e)
  goes_one (went {o = o} {n = n} {f = x} {g = y} {after = ts} {mid = m} e h k) (went {g = z} {h = g} {after = us} {mid = l} {rest = q} d i j) =
      let c : us ≡ ts = cc in
      let a = reads_one h (subst (λ (vs : List Lexeme). Reads (below o) n vs z l) c i) in
      goes_one k (subst (λ (vs : List Lexeme). GoesOn o n (join o x y) vs g q) (sym a.1) (subst (λ (w : Formula). GoesOn o n (join o x w) l g q) (sym a.0) j))

pub ones : {p : Part} {n : ℕ} → One (Reads p n)
ones = record { one = λ {tokens} {r} {q} h k. reads_one h k }

-- Terms that stand in terms.
use Rattle.std.proofs.Common.{◌≡◌, ⊎_elim, inl, inr, ℕ, List, refl, sym, subst}
use Rattle.sp_spec.specs.Term.{Term, var, constant, name, app, Terms, none, more, Ground, Grounds, valued, valued_all}
use Rattle.sp_spec.specs.Signature.{Equation, Symbol, IsOver, AreOver}
use Rattle.sp_spec.specs.Equal.{IsNormal, AreNormal}
use Rattle.sp_law_equal.specs.Parts.{IsPart, IsPartOfOne, IsProperPart}

pub part_itself : {V : Type 0} (t : Term V) → IsPart t t
part_itself (var x) = refl
part_itself (constant c) = refl
part_itself (name n) = refl
part_itself (app f ts) = inl refl

pub proper_is_part : {V : Type 0} (r t : Term V) → IsProperPart r t → IsPart r t
proper_is_part r (var x) p = absurd p
proper_is_part r (constant c) p = absurd p
proper_is_part r (name n) p = absurd p
proper_is_part r (app f ts) p = inr p

-- an instance of a part is a part of the instance
module _ {V W : Type 0} (v : V → Term W) (r : Term V) where
  abbrev same_is_part : (t : Term V) → r ≡ t → IsPart (valued v r) (valued v t)
  same_is_part t e = subst (λ (u : Term V). IsPart (valued v r) (valued v u)) e (part_itself (valued v r))

  mutual
    pub part_valued : (t : Term V) → IsPart r t → IsPart (valued v r) (valued v t)
    part_valued (var x) p = same_is_part (var x) p
    part_valued (constant c) p = same_is_part (constant c) p
    part_valued (name n) p = same_is_part (name n) p
    part_valued (app f ts) p = ⊎_elim (λ e. same_is_part (app f ts) e) (λ q. inr (part_of_one_valued ts q)) p

    pub part_of_one_valued : (ts : Terms V) → IsPartOfOne r ts → IsPartOfOne (valued v r) (valued_all v ts)
    part_of_one_valued none p = absurd p
    part_of_one_valued (more t ts) p = ⊎_elim (λ q. inl (part_valued t q)) (λ q. inr (part_of_one_valued ts q)) p

  pub proper_part_valued : (t : Term V) → IsProperPart r t → IsProperPart (valued v r) (valued v t)
  proper_part_valued (var x) p = absurd p
  proper_part_valued (constant c) p = absurd p
  proper_part_valued (name n) p = absurd p
  proper_part_valued (app f ts) p = part_of_one_valued ts p

-- what holds of a term and so of its arguments holds of its parts
module _ {V : Type 0} (P : Term V → Type 0) (Q : Terms V → Type 0) (under : (f : List ℕ) (ts : Terms V) → P (app f ts) → Q ts)
    (first : (t : Term V) (ts : Terms V) → Q (more t ts) → P t) (rest : (t : Term V) (ts : Terms V) → Q (more t ts) → Q ts) (r : Term V) where
  abbrev same_keeps : (t : Term V) → r ≡ t → P t → P r
  same_keeps t e h = subst P (sym e) h

  mutual
    pub part_keeps : (t : Term V) → IsPart r t → P t → P r
    part_keeps (var x) p h = same_keeps (var x) p h
    part_keeps (constant c) p h = same_keeps (constant c) p h
    part_keeps (name m) p h = same_keeps (name m) p h
    part_keeps (app f ts) p h = ⊎_elim (λ e. same_keeps (app f ts) e h) (λ q. part_of_one_keeps ts q (under f ts h)) p

    pub part_of_one_keeps : (ts : Terms V) → IsPartOfOne r ts → Q ts → P r
    part_of_one_keeps none p h = absurd p
    part_of_one_keeps (more t ts) p h = ⊎_elim (λ q. part_keeps t q (first t ts h)) (λ q. part_of_one_keeps ts q (rest t ts h)) p

-- parts of normal terms are normal
pub part_normal : (es : List Equation) (r t : Ground) → IsPart r t → IsNormal es t → IsNormal es r
part_normal es r t p h = part_keeps (IsNormal es) (AreNormal es) (λ f ts n. n.0) (λ u us n. n.0) (λ u us n. n.1) r t p h

pub part_of_one_normal : (es : List Equation) (r : Ground) (ts : Grounds) → IsPartOfOne r ts → AreNormal es ts → IsNormal es r
part_of_one_normal es r ts p h = part_of_one_keeps (IsNormal es) (AreNormal es) (λ f us n. n.0) (λ u us n. n.0) (λ u us n. n.1) r ts p h

-- parts of terms over the symbols are over them
pub part_over : (symbols : List Symbol) (r t : Ground) → IsPart r t → IsOver symbols t → IsOver symbols r
part_over symbols r t p h = part_keeps (IsOver symbols) (AreOver symbols) (λ f ts n. n.1) (λ u us n. n.0) (λ u us n. n.1) r t p h

pub part_of_one_over : (symbols : List Symbol) (r : Ground) (ts : Grounds) → IsPartOfOne r ts → AreOver symbols ts → IsOver symbols r
part_of_one_over symbols r ts p h = part_of_one_keeps (IsOver symbols) (AreOver symbols) (λ f us n. n.1) (λ u us n. n.0) (λ u us n. n.1) r ts p h

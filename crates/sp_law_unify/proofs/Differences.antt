-- What the first difference of two terms tells of values that make them the same, and of the binding that removes it.
use Rattle.std.proofs.Common.{◌≡◌, ◌<◌, Bool, true, false, not, ◌&&◌, cond, nat_lt, nat_eq, refl, sym, ap, ap₂, ◌∙◌, subst, arith, inl, inr, true≢false}
use Rattle.std.proofs.lemmas.Bool.{cond_both, ltb-true, ltb-false, eqb-true, eqb-false}
use Rattle.std.proofs.lemmas.Slice.Eq.{bytes_eq-Decides}
use Rattle.std.specs.Str.{bytes_eq}
use Rattle.sp_spec.specs.Term.{Sort, Msg, Fresh, Pub, Variable, Term, var, constant, name, app, Terms, none, more, valued, valued_all}
use Rattle.sp_spec.specs.Same.{same_variable}
use Rattle.sp_spec.specs.Unifier.{Difference, no_difference, clash, binding, occurs, may_stand, with_term, by_number, by_sorts, with_variable, or_then, difference, differences}
use Rattle.sp_spec.proofs.Same.{same_fields, same_variable_decides}
use Rattle.sp_law_unify.specs.MostGeneral.{IsOfSort, Precedes}
use Rattle.sp_law_unify.proofs.Values.{IsNoVariable, no_part}
use Rattle.sp_law_unify.proofs.Sorts.{AreSorts, same_sort_stands, may_stand_is, may_stand_by_value}

-- the term may be bound to the variable
pub record MayStand (x : Variable) (t : Term Variable) : Type 0 where
  pub sorted : IsOfSort x.sort t
  pub oriented : (y : Variable) → t ≡ var y → Precedes y x

preceding : (x y : Variable) → IsOfSort x.sort (var y) → Precedes y x → MayStand x (var y)
preceding x y h before = record {
  sorted = h;
  oriented = λ z e. let is : y ≡ z = cc in subst (λ u. Precedes u x) is before;
}

smaller : (x y : Variable) → y.sort ≡ x.sort → y.number < x.number → MayStand x (var y)
smaller x y s less = preceding x y (same_sort_stands x y s) (inl (s, less))

of_msg : (x y : Variable) → x.sort ≡ Msg → (y.sort ≡ Msg → ⊥) → MayStand x (var y)
of_msg x y m n = let P : Sort → Type 0 = λ s. IsOfSort s (var y) in preceding x y (subst P (sym m) tt) (inr (m, n))

no_variable : (x : Variable) (t : Term Variable) → IsNoVariable t → may_stand x.sort t ≡ true → MayStand x t
no_variable x t n m = record { sorted = may_stand_is x.sort t n m; oriented = λ y e. absurd (subst IsNoVariable e n) }

-- Values of terms over variables of some kind, each variable's of its sort.
module _ {W : Type 0} (Is : Sort → Term W → Type 0) (sorts : AreSorts Is) (v : Variable → Term W) (respects : (x : Variable) → Is x.sort (v x)) where
  -- without a difference the terms are the same; no such values make them the same where they clash; and values that do are those
  -- that give the variable of a binding what its term has
  abbrev pub Tells : Type 0 → Type 0 → Difference → Type 0
  Tells Same Equal no_difference = Same
  Tells Same Equal clash = Equal → ⊥
  Tells Same Equal (binding x t) = (Equal → v x ≡ valued v t) × MayStand x t

  -- what is told of other terms, where the ones are the same exactly as the others are
  pub tells_of : (Same Same' Equal Equal' : Type 0) → (Same → Same') → (Equal' → Equal) → (d : Difference) → Tells Same Equal d → Tells Same' Equal' d
  tells_of Same Same' Equal Equal' to from no_difference h = to h
  tells_of Same Same' Equal Equal' to from clash h = λ e. h (from e)
  tells_of Same Same' Equal Equal' to from (binding x t) h = (λ e. h.0 (from e), h.1)

  -- of one after the other
  pub tells_both : (Same Same' Equal Equal' : Type 0) (d e : Difference) → Tells Same Equal d → Tells Same' Equal' e
      → Tells (Same × Same') (Equal × Equal') (or_then d e)
  tells_both Same Same' Equal Equal' no_difference e h k =
      tells_of Same' (Same × Same') Equal' (Equal × Equal') (λ s. (h, s)) (λ q. q.1) e k
  tells_both Same Same' Equal Equal' clash e h k = λ q. h q.0
  tells_both Same Same' Equal Equal' (binding x t) e h k = (λ q. h.0 q.0, h.1)

  module _ (x y : Variable) (apart : same_variable x y ≡ false) where
    abbrev OfTwo : Difference → Type 0
    OfTwo d = Tells (var x ≡ var y) (v x ≡ v y) d

    by_number_tells : x.sort ≡ y.sort → OfTwo (by_number x y)
    by_number_tells s =
        cond_both (nat_lt x.number y.number) (binding y (var x)) (binding x (var y)) OfTwo
        (λ e. let less = ltb-true x.number y.number e in (λ q. sym q, smaller y x s (omega (arith, less))))
        (λ e.
        let least = ltb-false x.number y.number e in
        let other : x.number ≡ y.number → ⊥ = λ n. true≢false (sym ((same_variable_decides x y).1 (same_fields x y s n)) ∙ apart) in
        (λ q. q, smaller x y (sym s) (omega (arith, least, other))))

    sort_of_first : (s : Sort) → x.sort ≡ s → Is s (v x)
    sort_of_first s e = let P : Sort → Type 0 = λ u. Is u (v x) in subst P e (respects x)

    sort_of_second : (s : Sort) → y.sort ≡ s → Is s (v y)
    sort_of_second s e = let P : Sort → Type 0 = λ u. Is u (v y) in subst P e (respects y)

    by_sorts_tells : (s u : Sort) → x.sort ≡ s → y.sort ≡ u → OfTwo (by_sorts s u x y)
    by_sorts_tells Msg Msg e f = by_number_tells (e ∙ sym f)
    by_sorts_tells Msg Fresh e f = (λ q. q, of_msg x y e (λ m. cc))
    by_sorts_tells Msg Pub e f = (λ q. q, of_msg x y e (λ m. cc))
    by_sorts_tells Fresh Msg e f = (λ q. sym q, of_msg y x f (λ m. cc))
    by_sorts_tells Fresh Fresh e f = by_number_tells (e ∙ sym f)
    by_sorts_tells Fresh Pub e f = λ q. sorts.apart (v y) (subst (Is Fresh) q (sort_of_first Fresh e)) (sort_of_second Pub f)
    by_sorts_tells Pub Msg e f = (λ q. sym q, of_msg y x f (λ m. cc))
    by_sorts_tells Pub Fresh e f = λ q. sorts.apart (v y) (sort_of_second Fresh f) (subst (Is Pub) q (sort_of_first Pub e))
    by_sorts_tells Pub Pub e f = by_number_tells (e ∙ sym f)

  with_variable_tells : (x y : Variable) → Tells (var x ≡ var y) (v x ≡ v y) (with_variable x y)
  with_variable_tells x y =
      cond_both (same_variable x y) no_difference (by_sorts x.sort y.sort x y) (Tells (var x ≡ var y) (v x ≡ v y))
      (λ e. ap var ((same_variable_decides x y).0 e)) (λ e. by_sorts_tells x y e x.sort y.sort refl refl)

  with_term_tells : (x : Variable) (t : Term Variable) → IsNoVariable t → Tells (var x ≡ t) (v x ≡ valued v t) (with_term x t)
  with_term_tells x t n = by_tests (may_stand x.sort t) (occurs x t) refl refl
    where
      by_tests : (m o : Bool) → may_stand x.sort t ≡ m → occurs x t ≡ o → Tells (var x ≡ t) (v x ≡ valued v t) (cond (m && not o) (binding x t) clash)
      by_tests true false em eo = (λ q. q, no_variable x t n em)
      by_tests true true em eo = λ q. no_part x t v n eo q
      by_tests false o em eo = λ q. true≢false (sym (may_stand_by_value Is sorts v x.sort t n (subst (Is x.sort) q (respects x))) ∙ em)

  with_term_back : (x : Variable) (t : Term Variable) → IsNoVariable t → Tells (t ≡ var x) (valued v t ≡ v x) (with_term x t)
  with_term_back x t n =
      tells_of (var x ≡ t) (t ≡ var x) (v x ≡ valued v t) (valued v t ≡ v x) (λ e. sym e) (λ e. sym e) (with_term x t) (with_term_tells x t n)

  -- of two terms, and of two lists of terms
  abbrev pub OfTerms : Term Variable → Term Variable → Difference → Type 0
  OfTerms t u d = Tells (t ≡ u) (valued v t ≡ valued v u) d

  abbrev OfLists : Terms Variable → Terms Variable → Difference → Type 0
  OfLists ts us d = Tells (ts ≡ us) (valued_all v ts ≡ valued_all v us) d

  mutual
    pub difference_tells : (t u : Term Variable) → OfTerms t u (difference t u)
    difference_tells (var x) (var y) = with_variable_tells x y
    difference_tells (var x) (constant d) = with_term_tells x (constant d) tt
    difference_tells (var x) (name n) = with_term_tells x (name n) tt
    difference_tells (var x) (app g us) = with_term_tells x (app g us) tt
    difference_tells (constant c) (var y) = with_term_back y (constant c) tt
    difference_tells (name m) (var y) = with_term_back y (name m) tt
    difference_tells (app f ts) (var y) = with_term_back y (app f ts) tt
    difference_tells (constant c) (constant d) =
        cond_both (bytes_eq c d) no_difference clash (OfTerms (constant c) (constant d))
        (λ e. ap constant ((bytes_eq-Decides c d).0 e)) (λ e. λ q. true≢false (sym ((bytes_eq-Decides c d).1 cc) ∙ e))
    difference_tells (name m) (name n) =
        cond_both (nat_eq m n) no_difference clash (OfTerms (name m) (name n)) (λ e. ap name (eqb-true m n e)) (λ e. λ q. eqb-false m n e cc)
    difference_tells (app f ts) (app g us) = by_symbol (differences_tell ts us)
      where
        by_symbol : OfLists ts us (differences ts us) → OfTerms (app f ts) (app g us) (cond (bytes_eq f g) (differences ts us) clash)
        by_symbol h =
            cond_both (bytes_eq f g) (differences ts us) clash (OfTerms (app f ts) (app g us))
            (λ e.
            tells_of (ts ≡ us) (app f ts ≡ app g us) (valued_all v ts ≡ valued_all v us) (app f (valued_all v ts) ≡ app g (valued_all v us))
            (λ q. ap₂ app ((bytes_eq-Decides f g).0 e) q) (λ q. cc) (differences ts us) h)
            (λ e. λ q. true≢false (sym ((bytes_eq-Decides f g).1 cc) ∙ e))
    difference_tells (constant c) (name n) = λ q. cc
    difference_tells (constant c) (app g us) = λ q. cc
    difference_tells (name m) (constant d) = λ q. cc
    difference_tells (name m) (app g us) = λ q. cc
    difference_tells (app f ts) (constant d) = λ q. cc
    difference_tells (app f ts) (name n) = λ q. cc

    differences_tell : (ts us : Terms Variable) → OfLists ts us (differences ts us)
    differences_tell none none = refl
    differences_tell none (more u us) = λ q. cc
    differences_tell (more t ts) none = λ q. cc
    differences_tell (more t ts) (more u us) =
        tells_of ((t ≡ u) × (ts ≡ us)) (more t ts ≡ more u us)
        ((valued v t ≡ valued v u) × (valued_all v ts ≡ valued_all v us))
        (more (valued v t) (valued_all v ts) ≡ more (valued v u) (valued_all v us))
        (λ q. ap₂ more q.0 q.1) (λ q. (cc, cc)) (or_then (difference t u) (differences ts us))
        (tells_both (t ≡ u) (ts ≡ us) (valued v t ≡ valued v u) (valued_all v ts ≡ valued_all v us)
        (difference t u) (differences ts us) (difference_tells t u) (differences_tell ts us))

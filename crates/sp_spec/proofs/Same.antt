-- What the tests of equality tell.
use Rattle.std.proofs.Common.{◌≡◌, ℕ, Bool, true, refl, ap, ◌∙◌, subst}
use Rattle.std.proofs.lemmas.Bool.{and_parts, and_from, eqb-true, eq-eqb}
use Rattle.std.proofs.lemmas.Slice.Eq.{bytes_eq-Decides}
use Rattle.std.specs.Bool.{Decides}
use Rattle.std.specs.Str.{bytes_eq}
use Rattle.sp_spec.specs.Term.{Sort, Msg, Fresh, Pub, Variable, Term, var, constant, name, app, Terms, none, more, Ground, Grounds}
use Rattle.sp_spec.specs.Same.{same_sort, same_variable, same_by, same_all_by, no_test, same_term, same_terms, alike}

pub same_sort_tells : (s u : Sort) → same_sort s u ≡ true → s ≡ u
same_sort_tells Msg Msg e = refl
same_sort_tells Msg Fresh e = absurd cc
same_sort_tells Msg Pub e = absurd cc
same_sort_tells Fresh Msg e = absurd cc
same_sort_tells Fresh Fresh e = refl
same_sort_tells Fresh Pub e = absurd cc
same_sort_tells Pub Msg e = absurd cc
same_sort_tells Pub Fresh e = absurd cc
same_sort_tells Pub Pub e = refl

pub same_sort_itself : (s : Sort) → same_sort s s ≡ true
same_sort_itself Msg = refl
same_sort_itself Fresh = refl
same_sort_itself Pub = refl

pub same_fields : (x y : Variable) → x.sort ≡ y.sort → x.number ≡ y.number → x ≡ y
same_fields x y s n =
    let made : Sort → ℕ → Variable = λ u m. record { sort = u; number = m } in
    ap (λ u. made u x.number) s ∙ ap (made y.sort) n

pub same_variable_decides : (x y : Variable) → Decides (same_variable x y) (x ≡ y)
same_variable_decides x y = (
  λ e. let both = and_parts _ _ e in same_fields x y (same_sort_tells _ _ both.0) (eqb-true _ _ both.1),
  λ e. subst (λ (z : Variable). same_variable x z ≡ true) e (and_from _ _ (same_sort_itself x.sort) (eq-eqb _ _ refl)),
)

module _ {V : Type 0} (test : V → V → Bool) (decides : (x y : V) → Decides (test x y) (x ≡ y)) where
  mutual
    same_tells : (a b : Term V) → same_by test a b ≡ true → a ≡ b
    same_tells (var x) (var y) e = ap var ((decides x y).0 e)
    same_tells (constant c) (constant d) e = ap constant ((bytes_eq-Decides c d).0 e)
    same_tells (name m) (name n) e = ap name (eqb-true m n e)
    same_tells (app f ts) (app g us) e =
        let both = and_parts (bytes_eq f g) (same_all_by test ts us) e in
        cc ((bytes_eq-Decides f g).0 both.0, same_all_tells ts us both.1)
    same_tells (var x) (constant d) e = absurd cc
    same_tells (var x) (name n) e = absurd cc
    same_tells (var x) (app g us) e = absurd cc
    same_tells (constant c) (var y) e = absurd cc
    same_tells (constant c) (name n) e = absurd cc
    same_tells (constant c) (app g us) e = absurd cc
    same_tells (name m) (var y) e = absurd cc
    same_tells (name m) (constant d) e = absurd cc
    same_tells (name m) (app g us) e = absurd cc
    same_tells (app f ts) (var y) e = absurd cc
    same_tells (app f ts) (constant d) e = absurd cc
    same_tells (app f ts) (name n) e = absurd cc

    same_all_tells : (ts us : Terms V) → same_all_by test ts us ≡ true → ts ≡ us
    same_all_tells none none e = refl
    same_all_tells none (more u us) e = absurd cc
    same_all_tells (more t ts) none e = absurd cc
    same_all_tells (more t ts) (more u us) e =
        let both = and_parts (same_by test t u) (same_all_by test ts us) e in
        cc (same_tells t u both.0, same_all_tells ts us both.1)

  mutual
    same_itself : (t : Term V) → same_by test t t ≡ true
    same_itself (var x) = (decides x x).1 refl
    same_itself (constant c) = (bytes_eq-Decides c c).1 refl
    same_itself (name n) = eq-eqb n n refl
    same_itself (app f ts) = and_from _ _ ((bytes_eq-Decides f f).1 refl) (same_all_itself ts)

    same_all_itself : (ts : Terms V) → same_all_by test ts ts ≡ true
    same_all_itself none = refl
    same_all_itself (more t ts) = and_from _ _ (same_itself t) (same_all_itself ts)

  pub same_by_decides : (a b : Term V) → Decides (same_by test a b) (a ≡ b)
  same_by_decides a b = (same_tells a b, λ e. subst (λ (c : Term V). same_by test a c ≡ true) e (same_itself a))

  pub same_all_by_decides : (ts us : Terms V) → Decides (same_all_by test ts us) (ts ≡ us)
  same_all_by_decides ts us = (same_all_tells ts us, λ e. subst (λ (ws : Terms V). same_all_by test ts ws ≡ true) e (same_all_itself ts))

pub alike_same : (t u : Term Variable) → alike t u ≡ true → t ≡ u
alike_same t u e = (same_by_decides same_variable same_variable_decides t u).0 e

pub no_test_decides : (x y : ⊥) → Decides (no_test x y) (x ≡ y)
no_test_decides x y = absurd x

pub same_term_decides : (a b : Ground) → Decides (same_term a b) (a ≡ b)
same_term_decides a b = same_by_decides no_test no_test_decides a b

pub same_terms_decides : (ts us : Grounds) → Decides (same_terms ts us) (ts ≡ us)
same_terms_decides ts us = same_all_by_decides no_test no_test_decides ts us

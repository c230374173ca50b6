-- Two most general unifiers are one, and the unifier of the definition is one.
use Rattle.std.proofs.Common.{◌≡◌, List, Option, Some, None, ◌⊎◌, ⊎_elim, refl, sym, ap, ◌∙◌, subst, arith}
use Rattle.sp_spec.specs.Term.{Variable, Term, var, constant, name, app, Terms, none, more, Values, valued, valued_all}
use Rattle.sp_spec.specs.Substitution.{Binding, bound_to}
use Rattle.sp_spec.specs.Unifier.{Pair, mgu}
use Rattle.sp_law_equal.specs.Matching.{any_of}
use Rattle.sp_law_unify.specs.MostGeneral.{Substitution, AreSolution, values_after, Precedes, IsMostGeneral, HaveNoSolution}
use Rattle.sp_law_unify.specs.Laws.{UnifierIsMostGeneral, MostGeneralIsOne}
use Rattle.sp_law_unify.proofs.Finding.{Answers, answers}
use Rattle.sp_law_equal.proofs.Matches.{any_has_sort}

not_both : (x y : Variable) → Precedes y x → Precedes x y → ⊥
not_both x y h k =
    ⊎_elim
    (λ a. ⊎_elim (λ b. omega (arith, a.1, b.1)) (λ b. b.1 (sym a.0 ∙ b.0)) k)
    (λ a. ⊎_elim (λ b. a.1 (sym b.0 ∙ a.0)) (λ b. b.1 a.0) k)
    h

one_variable : (x y : Variable) → (y ≡ x) ⊎ Precedes y x → (x ≡ y) ⊎ Precedes x y → x ≡ y
one_variable x y h k = ⊎_elim (λ e. sym e) (λ a. ⊎_elim (λ e. e) (λ b. absurd (not_both x y a b)) k) h

-- terms that are made of one another by replacing variables by those that precede them are one term
module _ (s r : Substitution) (of_s : (x y : Variable) → s x ≡ var y → (y ≡ x) ⊎ Precedes y x) (of_r : (x y : Variable) → r x ≡ var y → (y ≡ x) ⊎ Precedes y x) where
  mutual
    agree : (a b : Term Variable) → a ≡ valued s b → b ≡ valued r a → a ≡ b
    agree (var x) (var y) e f = ap var (one_variable x y (of_r x y (sym f)) (of_s y x (sym e)))
    agree (var x) (constant c) e f = cc
    agree (var x) (name n) e f = cc
    agree (var x) (app g us) e f = cc
    agree (constant c) b e f = sym f
    agree (name n) b e f = sym f
    agree (app g ts) (var y) e f = cc
    agree (app g ts) (constant c) e f = cc
    agree (app g ts) (name n) e f = cc
    agree (app g ts) (app h us) e f =
        let there : ts ≡ valued_all s us = cc in
        let back : us ≡ valued_all r ts = cc in
        let symbol : g ≡ h = cc in
        cc (agree_all ts us there back)

    agree_all : (ts us : Terms Variable) → ts ≡ valued_all s us → us ≡ valued_all r ts → ts ≡ us
    agree_all none us e f = sym f
    agree_all (more t ts) none e f = cc
    agree_all (more t ts) (more u us) e f =
        let e1 : t ≡ valued s u = cc in
        let f1 : u ≡ valued r t = cc in
        let e2 : ts ≡ valued_all s us = cc in
        let f2 : us ≡ valued_all r ts = cc in
        cc (agree t u e1 f1, agree_all ts us e2 f2)

pub one_most_general : (pairs : List Pair) (bs cs : List Binding) → IsMostGeneral pairs bs → IsMostGeneral pairs cs → (x : Variable) → bound_to bs x ≡ bound_to cs x
one_most_general pairs bs cs h k x =
    agree (bound_to bs) (bound_to cs) h.oriented k.oriented (bound_to bs x) (bound_to cs x)
    (k.general (bound_to bs) h.unifies x) (h.general (bound_to cs) k.unifies x)

-- the values after a most general unifier, where each variable left has some value of its sort
abbrev some_values : Values
some_values x = any_of x.sort

has_solution : (pairs : List Pair) (bs : List Binding) → IsMostGeneral pairs bs → (v : Values) × AreSolution pairs v
has_solution pairs bs h = (values_after bs some_values, h.gives some_values (λ x. any_has_sort x.sort))

pub most_general : (pairs : List Pair) (bs : List Binding) → mgu pairs ≡ Some bs → IsMostGeneral pairs bs
most_general pairs bs e = subst (Answers pairs) e (answers pairs)

none_there : (pairs : List Pair) → HaveNoSolution pairs → mgu pairs ≡ None
none_there pairs h = by_answer (mgu pairs) (answers pairs)
  where
    by_answer : (o : Option (List Binding)) → Answers pairs o → o ≡ None
    by_answer None a = refl
    by_answer (Some bs) a = let s = has_solution pairs bs a in absurd (h s.0 s.1)

pub unifier_law : UnifierIsMostGeneral
unifier_law = record {
  some = most_general;
  none = λ pairs. (λ e. subst (Answers pairs) e (answers pairs), none_there pairs);
  solved = λ pairs bs e. has_solution pairs bs (most_general pairs bs e);
}

pub one_law : MostGeneralIsOne
one_law = record { one = one_most_general }

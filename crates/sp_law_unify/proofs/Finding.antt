-- The unifier is most general: what is kept from binding to binding, and what the end of the way shows.
use Rattle.std.proofs.Common.{◌≡◌, ℕ, zero, suc, ◌<◌, List, [], ◌∷◌, Option, MatchOption, ◌⊎◌, ⊎_elim, inl, inr, refl, sym, ap, ◌∙◌, subst, arith}
use Rattle.sp_spec.specs.Lists.{Every}
use Rattle.sp_spec.specs.Term.{Sort, Variable, Term, var, constant, name, app, Values, valued}
use Rattle.sp_spec.specs.Signature.{HasSort}
use Rattle.sp_spec.specs.Substitution.{Binding, bound_to, followed_by, Fixes}
use Rattle.sp_spec.specs.Unifier.{Pair, MakesSame, Difference, no_difference, clash, binding, difference, first_difference, mgu}
use Rattle.sp_law_unify.specs.MostGeneral.{IsOfSort, Substitution, KeepsSorts, IsUnifier, AreSolution, values_after, Precedes, IsMostGeneral, HaveNoSolution}
use Rattle.sp_law_unify.specs.Progress.{left_over}
use Rattle.sp_law_unify.proofs.Way.{OnTheWay, starts, reaches}
use Rattle.sp_law_unify.proofs.Values.{valued_then, bound_to-followed_by, bound_to-one, Keeps, keeps_value, keeps_next}
use Rattle.sp_law_unify.proofs.Sorts.{AreSorts, ground_sorts, term_sorts, nothing_put, sort_of_value}
use Rattle.sp_law_unify.proofs.Differences.{MayStand, Tells, tells_of, tells_both, difference_tells}

abbrev Same : List Binding → Pair → Type 0
Same bs p = valued (bound_to bs) p.0 ≡ valued (bound_to bs) p.1

-- What the first difference of the pairs under bindings tells of values, where Equal says of a pair that they make it the same.
module _ {W : Type 0} (Is : Sort → Term W → Type 0) (sorts : AreSorts Is) (v : Variable → Term W) (respects : (x : Variable) → Is x.sort (v x)) (bs : List Binding)
    (Equal : Pair → Type 0) (under : (p : Pair) → Equal p → valued v (valued (bound_to bs) p.0) ≡ valued v (valued (bound_to bs) p.1)) where
  first_tells : (pairs : List Pair) → Tells Is sorts v respects (Every (Same bs) pairs) (Every Equal pairs) (first_difference bs pairs)
  first_tells [] = tt
  first_tells (p ∷ pairs) =
      let first = difference (valued (bound_to bs) p.0) (valued (bound_to bs) p.1) in
      tells_both Is sorts v respects (Same bs p) (Every (Same bs) pairs) (Equal p) (Every Equal pairs) first (first_difference bs pairs)
      (tells_of Is sorts v respects (Same bs p) (Same bs p) (valued v (valued (bound_to bs) p.0) ≡ valued v (valued (bound_to bs) p.1)) (Equal p)
      (λ e. e) (under p) first (difference_tells Is sorts v respects (valued (bound_to bs) p.0) (valued (bound_to bs) p.1)))
      (first_tells pairs)

abbrev Makes : {W : Type 0} → (Variable → Term W) → Pair → Type 0
Makes v p = valued v p.0 ≡ valued v p.1

-- values that make the pairs the same and that the bindings change nothing of
module _ {W : Type 0} (Is : Sort → Term W → Type 0) (sorts : AreSorts Is) (v : Variable → Term W) (respects : (x : Variable) → Is x.sort (v x)) (bs : List Binding)
    (keeps : Keeps v bs) (pairs : List Pair) (same : Every (Makes v) pairs) where
  told : (d : Difference) → first_difference bs pairs ≡ d → Tells Is sorts v respects (Every (Same bs) pairs) (Every (Makes v) pairs) d
  told d is =
      subst (Tells Is sorts v respects (Every (Same bs) pairs) (Every (Makes v) pairs)) is
      (first_tells Is sorts v respects bs (Makes v) (λ p e. keeps_value v bs keeps p.0 ∙ e ∙ sym (keeps_value v bs keeps p.1)) pairs)

  no_clash : first_difference bs pairs ≡ clash → ⊥
  no_clash is = told clash is same

  still_keeps : (x : Variable) (t : Term Variable) → first_difference bs pairs ≡ binding x t → Keeps v (followed_by bs ((x, t) ∷ []))
  still_keeps x t is = keeps_next v bs x t keeps ((told (binding x t) is).0 same)

-- what a difference tells by itself
module _ (bs : List Binding) (pairs : List Pair) (d : Difference) (is : first_difference bs pairs ≡ d) where
  found : Tells IsOfSort term_sorts var nothing_put (Every (Same bs) pairs) (Every (λ (p : Pair). ⊥) pairs) d
  found =
      subst (Tells IsOfSort term_sorts var nothing_put (Every (Same bs) pairs) (Every (λ (p : Pair). ⊥) pairs)) is
      (first_tells IsOfSort term_sorts var nothing_put bs (λ p. ⊥) (λ p e. absurd e) pairs)

abbrev Oriented : List Binding → Type 0
Oriented bs = (x y : Variable) → bound_to bs x ≡ var y → (y ≡ x) ⊎ Precedes y x

precedes_then : (z u y : Variable) → Precedes z u → Precedes u y → Precedes z y
precedes_then z u y h k =
    ⊎_elim
    (λ a. ⊎_elim (λ b. inl (a.0 ∙ b.0, omega (arith, a.1, b.1))) (λ b. inr (b.0, λ m. b.1 (sym a.0 ∙ m))) k)
    (λ a. ⊎_elim (λ b. inr (sym b.0 ∙ a.0, a.1)) (λ b. absurd (b.1 a.0)) k)
    h

-- One more binding: sorts are kept, and variables are replaced by those that precede them.
module _ (bs : List Binding) (x : Variable) (t : Term Variable) (may : MayStand x t) where
  abbrev one : List Binding
  one = (x, t) ∷ []

  one_keeps : KeepsSorts (bound_to one)
  one_keeps y = bound_to-one x t (λ z u. IsOfSort z.sort u) may.sorted y (nothing_put y)

  next_keeps : KeepsSorts (bound_to bs) → KeepsSorts (bound_to (followed_by bs one))
  next_keeps h y =
      subst (IsOfSort y.sort) (sym (bound_to-followed_by bs one y))
      (sort_of_value IsOfSort term_sorts (bound_to one) one_keeps y.sort (bound_to bs y) (h y))

  one_oriented : (u z : Variable) → bound_to one u ≡ var z → (z ≡ u) ⊎ Precedes z u
  one_oriented u z =
      bound_to-one x t (λ y r. r ≡ var z → (z ≡ y) ⊎ Precedes z y) (λ e. inr (may.oriented z e)) u (λ e. let is : z ≡ u = cc in inl is)

  precede_both : (y u z : Variable) → (u ≡ y) ⊎ Precedes u y → (z ≡ u) ⊎ Precedes z u → (z ≡ y) ⊎ Precedes z y
  precede_both y u z h k =
      ⊎_elim
      (λ a. subst (λ w. (z ≡ w) ⊎ Precedes z w) a k)
      (λ a. ⊎_elim (λ b. inr (subst (λ w. Precedes w y) (sym b) a)) (λ b. inr (precedes_then z u y b a)) k)
      h

  then_oriented : (r : Term Variable) (y z : Variable) → ((u : Variable) → r ≡ var u → (u ≡ y) ⊎ Precedes u y) → valued (bound_to one) r ≡ var z
      → (z ≡ y) ⊎ Precedes z y
  then_oriented (var u) y z h e = precede_both y u z (h u refl) (one_oriented u z e)
  then_oriented (constant c) y z h e = absurd cc
  then_oriented (name n) y z h e = absurd cc
  then_oriented (app f ts) y z h e = absurd cc

  next_oriented : Oriented bs → Oriented (followed_by bs one)
  next_oriented h y z e = then_oriented (bound_to bs y) y z (h y) (sym (bound_to-followed_by bs one y) ∙ e)

-- bindings on the way, of which each unifier and each solution is an instance
pub record AreGeneral (pairs : List Pair) (bs : List Binding) : Type 0 where
  pub keeps : KeepsSorts (bound_to bs)
  pub general : (s : Substitution) → IsUnifier pairs s → Keeps s bs
  pub fixes : (v : Values) → AreSolution pairs v → Fixes v bs
  pub oriented : Oriented bs

none_general : (pairs : List Pair) → AreGeneral pairs []
none_general pairs = record {
  keeps = nothing_put;
  general = λ s u x. refl;
  fixes = λ v a x. refl;
  oriented = λ x y e. let is : y ≡ x = cc in inl is;
}

-- pairs that the bindings make the same are so under all values after them
same_after : (bs : List Binding) (v : Values) (pairs : List Pair) → Every (Same bs) pairs → MakesSame (values_after bs v) pairs
same_after bs v [] h = tt
same_after bs v (p ∷ pairs) h = (
  sym (valued_then v (bound_to bs) (values_after bs v) (λ x. refl) p.0) ∙ ap (valued v) h.0 ∙ valued_then v (bound_to bs) (values_after bs v) (λ x. refl) p.1,
  same_after bs v pairs h.1,
)

module _ (pairs : List Pair) (bs : List Binding) (h : AreGeneral pairs bs) where
  solution_keeps : (v : Values) → AreSolution pairs v → (x : Variable) (t : Term Variable) → first_difference bs pairs ≡ binding x t
      → Fixes v (followed_by bs ((x, t) ∷ []))
  solution_keeps v a x t is = still_keeps HasSort ground_sorts v a.respects bs (h.fixes v a) pairs a.makes_same x t is

  next_general : (x : Variable) (t : Term Variable) → first_difference bs pairs ≡ binding x t → AreGeneral pairs (followed_by bs ((x, t) ∷ []))
  next_general x t is =
      let may = (found bs pairs (binding x t) is).1 in
      record {
        keeps = next_keeps bs x t may h.keeps;
        general = λ s u. still_keeps IsOfSort term_sorts s u.keeps bs (h.general s u) pairs u.makes_same x t is;
        fixes = λ v a. solution_keeps v a x t is;
        oriented = next_oriented bs x t may h.oriented;
      }

  refuses : first_difference bs pairs ≡ clash → HaveNoSolution pairs
  refuses is v a = no_clash HasSort ground_sorts v a.respects bs (h.fixes v a) pairs a.makes_same is

  finds : first_difference bs pairs ≡ no_difference → IsMostGeneral pairs bs
  finds is =
      let same = found bs pairs no_difference is in
      let unifies : IsUnifier pairs (bound_to bs) = record { makes_same = same; keeps = h.keeps } in
      record {
        unifies = unifies;
        general = h.general;
        fixes = h.fixes;
        gives =
            λ v r.
            record {
              respects = λ x. sort_of_value HasSort ground_sorts v r x.sort (bound_to bs x) (h.keeps x);
              makes_same = same_after bs v pairs same;
            };
        idempotent = λ x. sym (h.general (bound_to bs) unifies x);
        oriented = h.oriented;
      }

-- what the answer is
abbrev pub Answers : List Pair → Option (List Binding) → Type 0
Answers pairs o = MatchOption o (HaveNoSolution pairs) (λ bs. IsMostGeneral pairs bs)

-- the number of variables left over bounds the way to the answer
by_left : (n : ℕ) (pairs : List Pair) (bs : List Binding) → OnTheWay pairs bs → left_over bs pairs < n → AreGeneral pairs bs → Answers pairs (mgu pairs)
by_left zero pairs bs way enough h = absurd (omega arith)
by_left (suc n) pairs bs way enough h = by_first (first_difference bs pairs) refl (λ cs w l k. by_left n pairs cs w (omega arith) k)
  where
    by_first : (d : Difference) → first_difference bs pairs ≡ d
        → ((cs : List Binding) → OnTheWay pairs cs → left_over cs pairs < left_over bs pairs → AreGeneral pairs cs → Answers pairs (mgu pairs))
        → Answers pairs (mgu pairs)
    by_first no_difference is later = subst (Answers pairs) (reaches pairs bs way no_difference is) (finds pairs bs h is)
    by_first clash is later = subst (Answers pairs) (reaches pairs bs way clash is) (refuses pairs bs h is)
    by_first (binding x t) is later =
        let on = reaches pairs bs way (binding x t) is in
        later (followed_by bs ((x, t) ∷ [])) on.0 on.1 (next_general pairs bs h x t is)

pub answers : (pairs : List Pair) → Answers pairs (mgu pairs)
answers pairs = by_left (suc (left_over [] pairs)) pairs [] (starts pairs) (omega arith) (none_general pairs)

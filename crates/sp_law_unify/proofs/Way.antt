-- The way to the unifier: each binding takes a variable out of the pairs, so that the number in its definition is never used up.
use Rattle.std.proofs.Common.{◌≡◌, ℕ, zero, suc, ◌<◌, true, false, List, [], ◌∷◌, Some, None, refl, sym, ap, ◌∙◌, subst, arith, true≢false}
use Rattle.std.proofs.lemmas.Bool.{false_from_ne_true}
use Rattle.std.proofs.lemmas.List.Sums.{count_by-le-length, length-filter}
use Rattle.sp_spec.specs.Term.{Variable, Term}
use Rattle.sp_spec.specs.Substitution.{Binding, followed_by}
use Rattle.sp_spec.specs.Unifier.{Pair, Difference, no_difference, clash, binding, first_difference, occurrences_of, go_on, unified, mgu}
use Rattle.sp_spec.proofs.Same.{same_variable_decides}
use Rattle.sp_law_unify.specs.Progress.{variables_of, listed, occurs_under, left_over}
use Rattle.sp_law_unify.proofs.Steps.{Each, Tells, Binds, first_difference_tells, Stays, stays}
use Rattle.sp_law_unify.proofs.Counts.{fewer, occurrences_of-length, listed-occurs_under}

-- Bindings on the way to the unifier: the rest of the way leads to the unifier, is longer than the number of variables left over, and
-- what occurs is listed among the pairs' variables.
pub record OnTheWay (pairs : List Pair) (bs : List Binding) : Type 0 where
  pub left : ℕ
  pub enough : left_over bs pairs < left
  pub same : unified left pairs bs ≡ mgu pairs
  pub relevant : Each (λ (y : Variable). listed y (variables_of pairs) ≡ true) (occurs_under bs pairs)

-- the number of the unifier is enough
pub starts : (pairs : List Pair) → OnTheWay pairs []
starts pairs = record {
  left = suc (occurrences_of pairs);
  enough =
      omega
      (arith, length-filter (occurs_under [] pairs) (variables_of pairs), count_by-le-length (occurs_under [] pairs) (variables_of pairs), occurrences_of-length pairs);
  same = refl;
  relevant = λ y o. listed-occurs_under y pairs ∙ o;
}

module _ (pairs : List Pair) (bs : List Binding) (way : OnTheWay pairs bs) where
  -- what is to be shown where this is the first difference
  abbrev Outcome : Difference → Type 0
  Outcome no_difference = Some bs ≡ mgu pairs
  Outcome clash = None ≡ mgu pairs
  Outcome (binding x t) = OnTheWay pairs (followed_by bs ((x, t) ∷ [])) × (left_over (followed_by bs ((x, t) ∷ [])) pairs < left_over bs pairs)

  abbrev Occurs : Variable → Type 0
  Occurs y = occurs_under bs pairs y ≡ true

  module _ (x : Variable) (t : Term Variable) (told : Binds Occurs x t) where
    abbrev next : List Binding
    next = followed_by bs ((x, t) ∷ [])

    -- what occurs afterwards occurred before and isn't the variable, which is gone
    remains : Each (Stays Occurs x t told.only told.new) (occurs_under next pairs)
    remains = stays Occurs x t told.only told.new bs pairs (λ y o. o)

    gone : occurs_under next pairs x ≡ false
    gone = false_from_ne_true (occurs_under next pairs x) (λ o. true≢false (sym ((same_variable_decides x x).1 refl) ∙ (remains x o).1))

    -- fewer variables are left over
    falls : left_over next pairs < left_over bs pairs
    falls = fewer (occurs_under next pairs) (occurs_under bs pairs) (λ y o. (remains y o).0) x gone told.here (variables_of pairs) (way.relevant x told.here)

  -- one step of the definition, where the rest of its way is long enough
  outcome : (d : Difference) → Tells Occurs d → (n : ℕ) → left_over bs pairs < suc n → go_on d bs (unified n pairs) ≡ mgu pairs → Outcome d
  outcome no_difference told n enough same = same
  outcome clash told n enough same = same
  outcome (binding x t) told n enough same = (
    record {
      left = n;
      enough = omega (arith, enough, falls x t told);
      same = same;
      relevant = λ y o. way.relevant y (remains x t told y o).0;
    },
    falls x t told,
  )

  -- a first difference is the end of the way, or one step further on it
  pub reaches : (d : Difference) → first_difference bs pairs ≡ d → Outcome d
  reaches d is = subst Outcome is (by_left way.left way.enough way.same)
    where
      by_left : (n : ℕ) → left_over bs pairs < n → unified n pairs bs ≡ mgu pairs → Outcome (first_difference bs pairs)
      by_left zero enough same = absurd (omega arith)
      by_left (suc n) enough same = outcome (first_difference bs pairs) (first_difference_tells Occurs bs pairs (λ y o. o)) n enough same

  -- a step goes on with the bindings that are made of these and of the one that the first difference is
  pub goes_on : (x : Variable) (t : Term Variable) (one made : List Binding)
      → first_difference bs pairs ≡ binding x t → one ≡ (x, t) ∷ [] → made ≡ followed_by bs one
      → OnTheWay pairs made × (left_over made pairs < left_over bs pairs)
  goes_on x t one made is single then =
      subst (λ cs. OnTheWay pairs cs × (left_over cs pairs < left_over bs pairs)) (sym (then ∙ ap (followed_by bs) single)) (reaches (binding x t) is)

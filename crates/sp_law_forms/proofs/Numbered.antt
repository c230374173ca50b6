-- Values of a form whose variables are numbered anew, and of what it was.
use Rattle.std.proofs.Common.{◌≡◌, inl, inr, ℕ, zero, suc, ◌<◌, Bool, true, false, not, cond, List, [], ◌∷◌, ◌++◌, length, refl, sym, ap, ◌∙◌, subst, arith, true≢false, if◌then◌else◌}
use Rattle.std.specs.List.{filter}
use Rattle.std.proofs.lemmas.List.Elements.{filter-append}
use Rattle.sp_spec.specs.Lists.{Member, Every}
use Rattle.sp_spec.specs.Term.{Sort, Variable, Term, var, constant, name, app, Terms, none, more, Values, valued, valued_all, in_terms, EachVariable, EachVariables}
use Rattle.sp_spec.specs.Signature.{Signature, IsValue}
use Rattle.sp_spec.specs.Same.{same_variable}
use Rattle.sp_spec.specs.Rule.{Facts, facts_at, occurrences, InFacts}
use Rattle.sp_spec.proofs.Lists.{every_from, every_parts}
use Rattle.sp_spec.proofs.Occurrences.{occurrences_each, terms_each}
use Rattle.sp_spec.proofs.Same.{same_variable_decides, same_fields}
use Rattle.sp_spec_forms.specs.Numbering.{without_repeats, seen, place, renumbered, numbered}
use Rattle.sp_law_forms.specs.Laws.{IsNormalValuation}
use Rattle.sp_law_forms.proofs.Repeats.{kept_for}
use Rattle.sp_law_forms.proofs.Facts.{SameArgs, same_facts_at, after, facts_after, args_at, arguments_weaken}

-- the variable at a place, if it has the sort of y; y itself elsewhere
abbrev pub back : List Variable → Variable → ℕ → Variable
back [] y n = y
back (x ∷ xs) y zero = if same_variable x (record { sort = y.sort; number = x.number }) then x else y
back (x ∷ xs) y (suc n) = back xs y n

back_sort : (xs : List Variable) (y : Variable) (n : ℕ) → (back xs y n).sort ≡ y.sort
back_sort [] y n = refl
back_sort (x ∷ xs) y zero = by_test (same_variable x (record { sort = y.sort; number = x.number })) refl
  where
    by_test : (c : Bool) → same_variable x (record { sort = y.sort; number = x.number }) ≡ c → (cond c x y).sort ≡ y.sort
    by_test true e = ap (λ z. z.sort) ((same_variable_decides x (record { sort = y.sort; number = x.number })).0 e)
    by_test false e = refl
back_sort (x ∷ xs) y (suc n) = back_sort xs y n

pub back_place : (xs : List Variable) (x y : Variable) → Member x xs → y.sort ≡ x.sort → back xs y (place xs x) ≡ x
back_place [] x y m s = absurd m
back_place (z ∷ xs) x y m s = by_test (λ k. back_place xs x y k s) (same_variable z x) refl m
  where
    by_test : (Member x xs → back xs y (place xs x) ≡ x) → (c : Bool) → same_variable z x ≡ c → Member x (z ∷ xs) → back (z ∷ xs) y (cond c 0 (suc (place xs x))) ≡ x
    by_test on true e k =
        let is = (same_variable_decides z x).0 e in
        let z' : Variable = record { sort = y.sort; number = z.number } in
        ap (λ c. cond c z y) ((same_variable_decides z z').1 (same_fields z z' (ap (λ u. u.sort) is ∙ sym s) refl)) ∙ is
    by_test on false e (inl k) = absurd (true≢false (sym ((same_variable_decides z x).1 k) ∙ e))
    by_test on false e (inr k) = on k

pub place_below : (xs : List Variable) (x : Variable) → Member x xs → place xs x < length xs
place_below [] x m = absurd m
place_below (y ∷ ys) x m = by_test (place_below ys x) (same_variable y x) refl m
  where
    by_test : (Member x ys → place ys x < length ys) → (c : Bool) → same_variable y x ≡ c → Member x (y ∷ ys) → cond c 0 (suc (place ys x)) < suc (length ys)
    by_test on true e k = omega arith
    by_test on false e (inl k) = absurd (true≢false (sym ((same_variable_decides y x).1 k) ∙ e))
    by_test on false e (inr k) = let less = on k in omega (arith, less)

-- the values of the variables at their places
abbrev pub at_places : List Variable → Values → Values
at_places xs w y = w (back xs y y.number)

pub at_places_good : (signature : Signature) (xs : List Variable) (w : Values) → IsNormalValuation signature w → IsNormalValuation signature (at_places xs w)
at_places_good signature xs w h = (
  λ y. subst (λ (s : Sort). IsValue signature s (at_places xs w y)) (back_sort xs y y.number) (h.0 (back xs y y.number)),
  λ y. h.1 (back xs y y.number),
)

-- only the values of the variables in the term matter
module _ {W : Type 0} (a b : Variable → Term W) where
  abbrev pub SameAt : Variable → Type 0
  SameAt x = a x ≡ b x

  mutual
    pub same_valued : (t : Term Variable) → EachVariable SameAt t → valued a t ≡ valued b t
    same_valued (var x) h = h
    same_valued (constant c) h = refl
    same_valued (name n) h = refl
    same_valued (app f ts) h = ap (app f) (same_valued_all ts h)

    pub same_valued_all : (ts : Terms Variable) → EachVariables SameAt ts → valued_all a ts ≡ valued_all b ts
    same_valued_all none h = refl
    same_valued_all (more t ts) h = cc (same_valued t h.0, same_valued_all ts h.1)

-- what stands behind changes no place of those before
place_ahead : (xs rest : List Variable) (x : Variable) → Member x xs → place (xs ++ rest) x ≡ place xs x
place_ahead [] rest x m = absurd m
place_ahead (y ∷ ys) rest x m = by_test (place_ahead ys rest x) (same_variable y x) refl m
  where
    by_test : (Member x ys → place (ys ++ rest) x ≡ place ys x) → (c : Bool) → same_variable y x ≡ c → Member x (y ∷ ys)
        → cond c 0 (suc (place (ys ++ rest) x)) ≡ cond c 0 (suc (place ys x))
    by_test on true e k = refl
    by_test on false e (inl k) = absurd (true≢false (sym ((same_variable_decides y x).1 k) ∙ e))
    by_test on false e (inr k) = ap (λ n. suc n) (on k)

once_ahead : (xs ys : List Variable) → (rest : List Variable) × (without_repeats same_variable (xs ++ ys) ≡ without_repeats same_variable xs ++ rest)
once_ahead [] ys = (without_repeats same_variable ys, refl)
once_ahead (x ∷ xs) ys =
    let other : Variable → Bool = λ y. not (same_variable x y) in
    let more = once_ahead xs ys in
    (filter other more.0, ap (λ zs. x ∷ filter other zs) more.1 ∙ ap (λ zs. x ∷ zs) (filter-append other (without_repeats same_variable xs) more.0))

abbrev IsBelow : ℕ → Variable → Type 0
IsBelow n x = x.number < n

abbrev IsIn : List Variable → Variable → Type 0
IsIn xs x = Member x xs

module _ (xs ys : List Variable) (n : ℕ) (below : (x : Variable) → Member x ys → place xs x < n) where
  mutual
    below_at : (t : Term Variable) → EachVariable (IsIn ys) t → EachVariable (IsBelow n) (valued (renumbered xs) t)
    below_at (var x) h = below x h
    below_at (constant c) h = tt
    below_at (name n) h = tt
    below_at (app f ts) h = all_below_at ts h

    all_below_at : (ts : Terms Variable) → EachVariables (IsIn ys) ts → EachVariables (IsBelow n) (valued_all (renumbered xs) ts)
    all_below_at none h = tt
    all_below_at (more t ts) h = (below_at t h.0, all_below_at ts h.1)

-- each variable of a list is among those that are listed once
pub each_once : (all : List Variable) → Every (λ (x : Variable). Member x (without_repeats same_variable all)) all
each_once all =
    every_from _ all
    (λ x m.
    let k = kept_for same_variable (λ y z. y ≡ z) (λ y. refl) (λ y z u e e'. e ∙ e') (λ y z e. (same_variable_decides y z).0 e) x all m in
    subst (λ (y : Variable). Member y (without_repeats same_variable all)) k.2 k.1)

module _ (f : Facts Variable) (kept : Terms Variable) where
  -- each variable of both is listed
  all_seen : Every (IsIn (seen f kept)) (occurrences f ++ in_terms kept)
  all_seen = each_once (occurrences f ++ in_terms kept)

  facts_seen : InFacts (IsIn (seen f kept)) f
  facts_seen = occurrences_each (IsIn (seen f kept)) f (every_parts (IsIn (seen f kept)) (occurrences f) (in_terms kept) all_seen).0

  kept_seen : EachVariables (IsIn (seen f kept)) kept
  kept_seen = terms_each (IsIn (seen f kept)) kept (every_parts (IsIn (seen f kept)) (occurrences f) (in_terms kept) all_seen).1

  abbrev once : List Variable
  once = without_repeats same_variable (occurrences f)

  place_in_facts : (x : Variable) → Member x once → place (seen f kept) x < length once
  place_in_facts x m =
      let ahead = once_ahead (occurrences f) (in_terms kept) in
      let there : place (seen f kept) x ≡ place once x = ap (λ xs. place xs x) ahead.1 ∙ place_ahead once ahead.0 x m in
      let less = place_below once x m in
      omega (arith, there, less)

  -- so the facts' have their numbers below the count, and all below the number of all
  pub numbered_below : InFacts (IsBelow (numbered f kept).count) (numbered f kept).facts × EachVariables (IsBelow (length (seen f kept))) (numbered f kept).kept
  numbered_below = (
    args_at (renumbered (seen f kept)) (EachVariables (IsIn once)) (EachVariables (IsBelow (length once)))
        (all_below_at (seen f kept) once (length once) place_in_facts) f (occurrences_each (IsIn once) f (each_once (occurrences f))),
    all_below_at (seen f kept) (seen f kept) (length (seen f kept)) (place_below (seen f kept)) kept kept_seen,
  )

  module _ (w : Values) where
    abbrev pub placed : Values
    placed = at_places (seen f kept) w

    abbrev again : Values
    again = after placed (renumbered (seen f kept))

    mutual
      term_again : (t : Term Variable) → EachVariable (IsIn (seen f kept)) t → valued again t ≡ valued w t
      term_again (var x) h =
          ap w (back_place (seen f kept) x (record { sort = x.sort; number = place (seen f kept) x }) h refl)
      term_again (constant c) h = refl
      term_again (name n) h = refl
      term_again (app g ts) h = ap (app g) (terms_again ts h)

      terms_again : (ts : Terms Variable) → EachVariables (IsIn (seen f kept)) ts → valued_all again ts ≡ valued_all w ts
      terms_again none h = refl
      terms_again (more t ts) h = cc (term_again t h.0, terms_again ts h.1)

    -- at their places the variables have the values that they had
    pub numbered_facts : facts_at placed (numbered f kept).facts ≡ facts_at w f
    numbered_facts =
        facts_after placed (renumbered (seen f kept)) f
        ∙ same_facts_at again w f (arguments_weaken (EachVariables (IsIn (seen f kept))) (SameArgs again w) terms_again f facts_seen)

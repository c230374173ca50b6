-- Facts that are the same up to the names of their variables are numbered to the same facts.
use Rattle.std.proofs.Common.{◌≡◌, inl, inr, ℕ, suc, Bool, true, false, not, cond, ◌&&◌, List, [], ◌∷◌, ◌++◌, map, refl, sym, ap, ap₂, ◌∙◌, true≢false}
use Rattle.std.proofs.lemmas.List.{map-append}
use Rattle.std.specs.List.{filter}
use Rattle.sp_spec.specs.Lists.{Member}
use Rattle.sp_spec.specs.Term.{Sort, Variable, Term, var, constant, name, app, Terms, none, more, valued, valued_all, in_term, in_terms, EachVariables}
use Rattle.sp_spec.specs.Same.{same_variable}
use Rattle.sp_spec.specs.Rule.{Fact, Action, Facts, fact_at, action_at, facts_at, in_facts, in_actions, occurrences}
use Rattle.sp_spec.proofs.Lists.{every_from}
use Rattle.sp_spec.proofs.Bools.{same_tests}
use Rattle.sp_spec.proofs.Occurrences.{occurrences_each}
use Rattle.sp_spec.proofs.Same.{same_variable_decides}
use Rattle.sp_spec_forms.specs.Numbering.{without_repeats, seen, place, renumbered, numbered}
use Rattle.sp_law_forms.proofs.Facts.{arguments_weaken, SameArgs, same_facts_at, after, facts_after}
use Rattle.sp_law_forms.proofs.Numbered.{same_valued_all}

filter_both : {A : Type 0} (p q : A → Bool) (xs : List A) → filter p (filter q xs) ≡ filter (λ x. q x && p x) xs
filter_both p q [] = refl
filter_both {A} p q (x ∷ xs) = by_tests (q x) (p x) refl (filter_both p q xs)
  where
    by_tests : (a b : Bool) → p x ≡ b → filter p (filter q xs) ≡ filter (λ y. q y && p y) xs
        → filter p (cond a (x ∷ filter q xs) (filter q xs)) ≡ cond (a && b) (x ∷ filter (λ y. q y && p y) xs) (filter (λ y. q y && p y) xs)
    by_tests true b e h = ap (λ c. cond c (x ∷ filter p (filter q xs)) (filter p (filter q xs))) e ∙ ap (λ ys. cond b (x ∷ ys) ys) h
    by_tests false b e h = h

filter_all : {A : Type 0} (xs : List A) → filter (λ x. true) xs ≡ xs
filter_all [] = refl
filter_all (x ∷ xs) = ap (λ ys. x ∷ ys) (filter_all xs)

-- what stands in terms and facts whose variables are renamed
module _ (r : Variable → Variable) where
  abbrev pub rename : Variable → Term Variable
  rename x = var (r x)

  mutual
    in_term_renamed : (t : Term Variable) → in_term (valued rename t) ≡ map r (in_term t)
    in_term_renamed (var x) = refl
    in_term_renamed (constant c) = refl
    in_term_renamed (name n) = refl
    in_term_renamed (app f ts) = in_terms_renamed ts

    pub in_terms_renamed : (ts : Terms Variable) → in_terms (valued_all rename ts) ≡ map r (in_terms ts)
    in_terms_renamed none = refl
    in_terms_renamed (more t ts) =
        ap₂ (λ xs ys. xs ++ ys) (in_term_renamed t) (in_terms_renamed ts) ∙ sym (map-append r (in_term t) (in_terms ts))

  in_facts_renamed : (fs : List (Fact Variable)) → in_facts (map (fact_at rename) fs) ≡ map r (in_facts fs)
  in_facts_renamed [] = refl
  in_facts_renamed (f ∷ fs) =
      ap₂ (λ xs ys. xs ++ ys) (in_terms_renamed f.args) (in_facts_renamed fs) ∙ sym (map-append r (in_terms f.args) (in_facts fs))

  in_actions_renamed : (xs : List (Action Variable)) → in_actions (map (action_at rename) xs) ≡ map r (in_actions xs)
  in_actions_renamed [] = refl
  in_actions_renamed (a ∷ xs) =
      ap₂ (λ xs ys. xs ++ ys) (in_terms_renamed a.args) (in_actions_renamed xs) ∙ sym (map-append r (in_terms a.args) (in_actions xs))

  pub occurrences_renamed : (f : Facts Variable) → occurrences (facts_at rename f) ≡ map r (occurrences f)
  occurrences_renamed f =
      ap₂ (λ xs ys. xs ++ ys) (in_facts_renamed f.premises)
      (ap₂ (λ xs ys. xs ++ ys) (in_actions_renamed f.actions) (in_facts_renamed f.conclusions)
      ∙ sym (map-append r (in_actions f.actions) (in_facts f.conclusions)))
      ∙ sym (map-append r (in_facts f.premises) (in_actions f.actions ++ in_facts f.conclusions))

abbrev once : List Variable → List Variable
once xs = without_repeats same_variable xs

module _ (r : Variable → Variable) (injective : (x y : Variable) → r x ≡ r y → x ≡ y) (sorts : (x : Variable) → (r x).sort ≡ x.sort) where
  same_renamed : (x y : Variable) → same_variable (r x) (r y) ≡ same_variable x y
  same_renamed x y =
      same_tests (same_variable (r x) (r y)) (same_variable x y)
      (λ e. (same_variable_decides x y).1 (injective x y ((same_variable_decides (r x) (r y)).0 e)))
      (λ e. (same_variable_decides (r x) (r y)).1 (ap r ((same_variable_decides x y).0 e)))

  -- the place of a variable hangs on what stands before it alone
  module _ (K K' : List Variable) where
    same_place : (xs : List Variable) (x : Variable) (p p' : Variable → Bool) → ((y : Variable) → p' (r y) ≡ p y) → Member x xs → p x ≡ true
        → place (filter p' (once (map r xs ++ K'))) (r x) ≡ place (filter p (once (xs ++ K))) x
    same_place [] x p p' e m t = absurd m
    same_place (b ∷ xs) x p p' e m t =
        let q : Variable → Bool = λ y. not (same_variable b y) in
        let q' : Variable → Bool = λ y. not (same_variable (r b) y) in
        by_tests
        (λ other m'.
        ap (λ ys. place ys (r x)) (filter_both p' q' (once (map r xs ++ K')))
        ∙ same_place xs x (λ y. q y && p y) (λ y. q' y && p' y) (λ y. ap₂ (λ a c. not a && c) (same_renamed b y) (e y)) m'
        (ap₂ (λ a c. not a && c) other t)
        ∙ sym (ap (λ ys. place ys x) (filter_both p q (once (xs ++ K)))))
        (p b) refl (same_variable b x) refl m
      where
        by_tests : (same_variable b x ≡ false → Member x xs
            → place (filter p' (filter (λ y. not (same_variable (r b) y)) (once (map r xs ++ K')))) (r x)
            ≡ place (filter p (filter (λ y. not (same_variable b y)) (once (xs ++ K)))) x)
            → (c : Bool) → p b ≡ c → (d : Bool) → same_variable b x ≡ d → Member x (b ∷ xs)
            → place (cond (p' (r b)) (r b ∷ filter p' (filter (λ y. not (same_variable (r b) y)) (once (map r xs ++ K'))))
            (filter p' (filter (λ y. not (same_variable (r b) y)) (once (map r xs ++ K'))))) (r x)
            ≡ place (cond (p b) (b ∷ filter p (filter (λ y. not (same_variable b y)) (once (xs ++ K))))
            (filter p (filter (λ y. not (same_variable b y)) (once (xs ++ K))))) x
        by_tests on c pc d sd m =
            let M' = filter p' (filter (λ y. not (same_variable (r b) y)) (once (map r xs ++ K'))) in
            let M = filter p (filter (λ y. not (same_variable b y)) (once (xs ++ K))) in
            ap (λ a. place (cond a (r b ∷ M') M') (r x)) (e b ∙ pc)
            ∙ go M M' on c pc d sd m
            ∙ sym (ap (λ a. place (cond a (b ∷ M) M) x) pc)
          where
            go : (M M' : List Variable) → (same_variable b x ≡ false → Member x xs → place M' (r x) ≡ place M x)
                → (c : Bool) → p b ≡ c → (d : Bool) → same_variable b x ≡ d → Member x (b ∷ xs)
                → place (cond c (r b ∷ M') M') (r x) ≡ place (cond c (b ∷ M) M) x
            go M M' on true pc true sd m =
                ap (λ a. cond a 0 (suc (place M' (r x)))) (same_renamed b x ∙ sd) ∙ sym (ap (λ a. cond a 0 (suc (place M x))) sd)
            go M M' on true pc false sd (inl k) = absurd (true≢false (sym ((same_variable_decides b x).1 k) ∙ sd))
            go M M' on true pc false sd (inr k) =
                ap (λ a. cond a 0 (suc (place M' (r x)))) (same_renamed b x ∙ sd) ∙ ap (λ n. suc n) (on sd k) ∙ sym (ap (λ a. cond a 0 (suc (place M x))) sd)
            go M M' on false pc true sd m = absurd (true≢false (sym t ∙ ap p (sym ((same_variable_decides b x).0 sd)) ∙ pc))
            go M M' on false pc false sd (inl k) = absurd (true≢false (sym ((same_variable_decides b x).1 k) ∙ sd))
            go M M' on false pc false sd (inr k) = on sd k

  -- the numbers are the same, whatever terms are kept
  pub numbered_same : (f : Facts Variable) (kept kept' : Terms Variable) → (numbered (facts_at (rename r) f) kept').facts ≡ (numbered f kept).facts
  numbered_same f kept kept' =
      let K = in_terms kept in
      let K' = in_terms kept' in
      let A = occurrences f in
      let xs = seen f kept in
      let ys = seen (facts_at (rename r) f) kept' in
      let a = after (renumbered ys) (rename r) in
      let xs_is : xs ≡ filter (λ x. true) (once (A ++ K)) = sym (filter_all (once (A ++ K))) in
      let ys_is : ys ≡ filter (λ x. true) (once (map r A ++ K')) =
      ap (λ zs. once (zs ++ K')) (occurrences_renamed r f) ∙ sym (filter_all (once (map r A ++ K'))) in
      let At : Variable → Type 0 = λ x. a x ≡ renumbered xs x in
      let each : (x : Variable) → Member x A → At x =
      λ x m.
      let made : Sort → ℕ → Term Variable = λ u n. var (record { sort = u; number = n }) in
      ap (λ u. made u (place ys (r x))) (sorts x)
      ∙ ap (made x.sort)
      (ap (λ zs. place zs (r x)) ys_is
      ∙ same_place K K' A x (λ y. true) (λ y. true) (λ y. refl) m refl
      ∙ sym (ap (λ zs. place zs x) xs_is)) in
      facts_after (renumbered ys) (rename r) f
      ∙ same_facts_at a (renumbered xs) f
      (arguments_weaken (EachVariables At) (SameArgs a (renumbered xs)) (λ ts e. same_valued_all a (renumbered xs) ts e) f
      (occurrences_each At f (every_from At A each)))

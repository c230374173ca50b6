-- What `normal` does, whatever the equations are, and what holds where each term has one normal form.
use Rattle.std.proofs.Common.{◌≡◌, ◌↔◌, ◌⊎◌, ⊎_elim, inl, inr, ℕ, List, [], ◌∷◌, Option, Some, None, refl, sym, ap, ◌∙◌, subst}
use Rattle.sp_spec.specs.Lists.{Member}
use Rattle.sp_spec.specs.Term.{Sort, Msg, Fresh, Pub, Variable, Term, var, constant, name, app, Terms, none, more, Ground, Grounds, Values, valued, valued_all}
use Rattle.sp_spec.specs.Signature.{Equation, HasSort, RespectsSorts}
use Rattle.sp_spec.specs.Equal.{at_root, Equal, end, forth, EqualAll, MatchesNone, IsNormal, AreNormal}
use Rattle.sp_law_equal.specs.Matching.{Bound, value_in, IsMatch, NoneMatches, matched}
use Rattle.sp_law_equal.specs.Destructors.{IsDestructor, IsPlain, ArePlain}
use Rattle.sp_law_equal.specs.NormalForms.{HaveNormalForms}
use Rattle.sp_law_equal.specs.Normal.{found_or, reduced, normal, normal_all}
use Rattle.sp_law_equal.proofs.Chains.{equal_trans, equal_app}
use Rattle.sp_law_equal.proofs.Matches.{is_match, none_matches}

-- what `reduced` did: some equation was used
abbrev pub Used : List Equation → Ground → Ground → Type 0
Used es t u = (e : Equation) × (bs : List Bound) × Member e es × IsMatch e.left t bs × (u ≡ valued (value_in bs) e.right)

-- either an equation was used, or none matches
pub reduced_by : (es : List Equation) (t : Ground) → Used es t (reduced es t) ⊎ ((reduced es t ≡ t) × MatchesNone es t)
reduced_by [] t = inr (refl, λ e h. absurd h)
reduced_by (e ∷ es) t = by_match (matched e.left t []) refl (reduced_by es t)
  where
    by_match : (o : Option (List Bound)) → matched e.left t [] ≡ o → Used es t (reduced es t) ⊎ ((reduced es t ≡ t) × MatchesNone es t)
        → Used (e ∷ es) t (found_or o e.right (reduced es t)) ⊎ ((found_or o e.right (reduced es t) ≡ t) × MatchesNone (e ∷ es) t)
    by_match (Some bs) h r = inl (e, bs, inl refl, is_match e.left t bs h, refl)
    by_match None h r =
        ⊎_elim
        (λ u. inl (u.0, u.1, inr u.2, u.3, u.4))
        (λ n. inr (n.0, λ d m. ⊎_elim (λ is. subst (λ (c : Equation). NoneMatches c.left t) is (none_matches e.left t h)) (λ m'. n.1 d m') m))
        r

module _ (es : List Equation) where
  abbrev pub normals : {V : Type 0} → (V → Ground) → V → Ground
  normals v x = normal es (v x)

  -- a term that no left side matches stays
  pub reduced_same : (t : Ground) → MatchesNone es t → reduced es t ≡ t
  reduced_same t n = ⊎_elim (λ u. absurd (n u.0 u.2 (value_in u.1) u.3.respects u.3.gives)) (λ k. k.0) (reduced_by es t)

  -- normal terms are their own normal forms
  mutual
    pub normal_of_normal : (t : Ground) → IsNormal es t → normal es t ≡ t
    normal_of_normal (var x) n = absurd x
    normal_of_normal (constant c) n = refl
    normal_of_normal (name m) n = refl
    normal_of_normal (app f ts) n = ap (λ us. reduced es (app f us)) (normal_all_of_normal ts n.0) ∙ reduced_same (app f ts) n.1

    pub normal_all_of_normal : (ts : Grounds) → AreNormal es ts → normal_all es ts ≡ ts
    normal_all_of_normal none n = refl
    normal_all_of_normal (more t ts) n = cc (normal_of_normal t n.0, normal_all_of_normal ts n.1)

  pub normal_has_sort : (s : Sort) (t : Ground) → HasSort s t → HasSort s (normal es t)
  normal_has_sort Msg t h = tt
  normal_has_sort Fresh (var x) h = absurd x
  normal_has_sort Fresh (constant c) h = h
  normal_has_sort Fresh (name n) h = h
  normal_has_sort Fresh (app f ts) h = absurd h
  normal_has_sort Pub (var x) h = absurd x
  normal_has_sort Pub (constant c) h = h
  normal_has_sort Pub (name n) h = absurd h
  normal_has_sort Pub (app f ts) h = absurd h

  pub normals_respect : (v : Values) → RespectsSorts v → RespectsSorts (λ x. normal es (v x))
  normals_respect v r x = normal_has_sort x.sort (v x) (r x)

  -- fresh names and public names are normal
  pub sorted_is_normal : (s : Sort) (t : Ground) → HasSort s t → (s ≡ Msg → ⊥) → IsNormal es t
  sorted_is_normal Msg t h n = absurd (n refl)
  sorted_is_normal s (var x) h n = absurd x
  sorted_is_normal s (constant c) h n = tt
  sorted_is_normal s (name m) h n = tt
  sorted_is_normal Fresh (app f ts) h n = absurd h
  sorted_is_normal Pub (app f ts) h n = absurd h

  top_step : (t : Ground) → Equal es t (reduced es t)
  top_step t =
      ⊎_elim
      (λ u. forth (at_root u.0 u.2 (value_in u.1) u.3.respects (sym u.3.gives) u.4) end)
      (λ n. subst (λ (r : Ground). Equal es t r) (sym n.0) end)
      (reduced_by es t)

  mutual
    pub to_normal : (t : Ground) → Equal es t (normal es t)
    to_normal (var x) = end
    to_normal (constant c) = end
    to_normal (name n) = end
    to_normal (app f ts) =
        let us = normal_all es ts in
        equal_trans es (app f ts) (app f us) _ (equal_app es f ts us (to_normal_all ts)) (top_step (app f us))

    pub to_normal_all : (ts : Grounds) → EqualAll es ts (normal_all es ts)
    to_normal_all none = tt
    to_normal_all (more t ts) = (to_normal t, to_normal_all ts)

  -- no left side matches an application of a symbol that isn't a destructor
  abbrev pub OthersMatchNone : Type 0
  OthersMatchNone = (f : List ℕ) (us : Grounds) → (IsDestructor es f → ⊥) → MatchesNone es (app f us)

  module _ (none_match : OthersMatchNone) where
    mutual
      -- the normal form of an instance of a plain term is its instance at the normal forms
      pub plain_form : (v : Values) (t : Term Variable) → IsPlain es t → normal es (valued v t) ≡ valued (normals v) t
      plain_form v (var x) p = refl
      plain_form v (constant c) p = refl
      plain_form v (name n) p = refl
      plain_form v (app f ts) p =
          let us = valued_all (normals v) ts in
          ap (λ ws. reduced es (app f ws)) (plain_form_all v ts p.1) ∙ reduced_same (app f us) (none_match f us p.0)

      pub plain_form_all : (v : Values) (ts : Terms Variable) → ArePlain es ts → normal_all es (valued_all v ts) ≡ valued_all (normals v) ts
      plain_form_all v none p = refl
      plain_form_all v (more t ts) p = cc (plain_form v t p.0, plain_form_all v ts p.1)

  module _ (good : HaveNormalForms es) where
    pub are_normal : (ts : Grounds) → AreNormal es (normal_all es ts)
    are_normal none = tt
    are_normal (more t ts) = (good.is_normal t, are_normal ts)

    -- equal terms have one normal form
    pub equal_normal : {t u : Ground} → Equal es t u → normal es t ≡ normal es u
    equal_normal {t} {u} h = (good.decides t u).0 h

    pub equal_all_normal : (ts us : Grounds) → EqualAll es ts us → normal_all es ts ≡ normal_all es us
    equal_all_normal none none h = refl
    equal_all_normal none (more u us) h = absurd h
    equal_all_normal (more t ts) none h = absurd h
    equal_all_normal (more t ts) (more u us) h = cc (equal_normal h.0, equal_all_normal ts us h.1)

    pub decides_all : (ts us : Grounds) → EqualAll es ts us ↔ (normal_all es ts ≡ normal_all es us)
    decides_all ts us = (λ h. equal_all_normal ts us h, λ e. from_normal ts us e)
      where
        from_normal : (ts us : Grounds) → normal_all es ts ≡ normal_all es us → EqualAll es ts us
        from_normal none none e = tt
        from_normal none (more u us) e = absurd cc
        from_normal (more t ts) none e = absurd cc
        from_normal (more t ts) (more u us) e = ((good.decides t u).1 cc, from_normal ts us cc)

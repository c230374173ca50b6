-- Equality modulo equations is an equivalence, and symbols and valuations keep it.
use Rattle.std.proofs.Common.{◌≡◌, List, ℕ, refl, sym, subst, ◌∙◌}
use Rattle.sp_spec.specs.Term.{Term, var, constant, name, app, Terms, none, more, Ground, Grounds, valued, valued_all}
use Rattle.sp_spec.specs.Equal.{Rewriting, below, RewritingIn, here, there, Equal, end, forth, back, EqualAll}
use Rattle.sp_spec.specs.Signature.{Equation}
use Rattle.sp_spec.specs.Rule.{Fact, Action, action_at, SameFact, SameAction}

module _ (es : List Equation) where
  pub equal_refl : (t : Ground) → Equal es t t
  equal_refl t = end

  -- the same term is an equal one
  pub equal_from : (t u : Ground) → t ≡ u → Equal es t u
  equal_from t u e = subst (λ (w : Ground). Equal es t w) e end

  pub equal_trans : (t u w : Ground) → Equal es t u → Equal es u w → Equal es t w
  equal_trans t u w end k = k
  equal_trans t u w (forth l h) k = forth l (equal_trans _ u w h k)
  equal_trans t u w (back l h) k = back l (equal_trans _ u w h k)

  pub equal_sym : (t u : Ground) → Equal es t u → Equal es u t
  equal_sym t u end = end
  equal_sym t u (forth l h) = equal_trans u _ t (equal_sym _ u h) (back l end)
  equal_sym t u (back l h) = equal_trans u _ t (equal_sym _ u h) (forth l end)

  -- what each rewriting keeps is the same of equal terms
  pub chain_kept : {A : Type 0} (f : Ground → A) → ((t u : Ground) → Rewriting es t u → f t ≡ f u) → (t u : Ground) → Equal es t u → f t ≡ f u
  chain_kept f kept t u end = refl
  chain_kept f kept t u (forth l h) = kept _ _ l ∙ chain_kept f kept _ u h
  chain_kept f kept t u (back l h) = sym (kept _ _ l) ∙ chain_kept f kept _ u h

  -- a place of a term that each rewriting may stand in
  in_place : (c : Ground → Ground) → ((t u : Ground) → Rewriting es t u → Rewriting es (c t) (c u)) → (t u : Ground) → Equal es t u → Equal es (c t) (c u)
  in_place c on t u end = end
  in_place c on t u (forth l h) = forth (on _ _ l) (in_place c on _ u h)
  in_place c on t u (back l h) = back (on _ _ l) (in_place c on _ u h)

  -- arguments replaced one after the other
  in_places : (c : Grounds → Ground) → ((ts us : Grounds) → RewritingIn es ts us → Rewriting es (c ts) (c us))
      → (ts us : Grounds) → EqualAll es ts us → Equal es (c ts) (c us)
  in_places c on none none h = end
  in_places c on none (more u us) h = absurd h
  in_places c on (more t ts) none h = absurd h
  in_places c on (more t ts) (more u us) h =
      equal_trans _ (c (more u ts)) _
      (in_place (λ w. c (more w ts)) (λ w w' l. on _ _ (here l)) t u h.0)
      (in_places (λ ws. c (more u ws)) (λ ws ws' l. on _ _ (there l)) ts us h.1)

  -- a symbol over equal arguments
  pub equal_app : (f : List ℕ) (ts us : Grounds) → EqualAll es ts us → Equal es (app f ts) (app f us)
  equal_app f ts us h = in_places (app f) (λ ws ws' l. below l) ts us h

  pub equal_all_refl : (ts : Grounds) → EqualAll es ts ts
  equal_all_refl none = tt
  equal_all_refl (more t ts) = (end, equal_all_refl ts)

  pub equal_all_sym : (ts us : Grounds) → EqualAll es ts us → EqualAll es us ts
  equal_all_sym none none h = tt
  equal_all_sym none (more u us) h = absurd h
  equal_all_sym (more t ts) none h = absurd h
  equal_all_sym (more t ts) (more u us) h = (equal_sym t u h.0, equal_all_sym ts us h.1)

  pub equal_all_trans : (ts us ws : Grounds) → EqualAll es ts us → EqualAll es us ws → EqualAll es ts ws
  equal_all_trans none none ws h k = k
  equal_all_trans none (more u us) ws h k = absurd h
  equal_all_trans (more t ts) none ws h k = absurd h
  equal_all_trans (more t ts) (more u us) none h k = absurd k
  equal_all_trans (more t ts) (more u us) (more w ws) h k = (equal_trans t u w h.0 k.0, equal_all_trans ts us ws h.1 k.1)

  -- equal values make equal instances
  module _ {V : Type 0} (v w : V → Ground) (same : (x : V) → Equal es (v x) (w x)) where
    mutual
      pub equal_valued : (t : Term V) → Equal es (valued v t) (valued w t)
      equal_valued (var x) = same x
      equal_valued (constant c) = end
      equal_valued (name n) = end
      equal_valued (app f ts) = equal_app f (valued_all v ts) (valued_all w ts) (equal_all_valued ts)

      pub equal_all_valued : (ts : Terms V) → EqualAll es (valued_all v ts) (valued_all w ts)
      equal_all_valued none = tt
      equal_all_valued (more t ts) = (equal_valued t, equal_all_valued ts)

    pub same_action_valued : (a : Action V) → SameAction es (action_at v a) (action_at w a)
    same_action_valued a = (refl, equal_all_valued a.args)

  pub same_fact_refl : (f : Fact ⊥) → SameFact es f f
  same_fact_refl f = (refl, refl, equal_all_refl f.args)

  pub same_fact_sym : (f g : Fact ⊥) → SameFact es f g → SameFact es g f
  same_fact_sym f g h = (sym h.0, sym h.1, equal_all_sym f.args g.args h.2)

  pub same_fact_trans : (f g k : Fact ⊥) → SameFact es f g → SameFact es g k → SameFact es f k
  same_fact_trans f g k h i = (h.0 ∙ i.0, h.1 ∙ i.1, equal_all_trans f.args g.args k.args h.2 i.2)

  pub same_action_refl : (a : Action ⊥) → SameAction es a a
  same_action_refl a = (refl, equal_all_refl a.args)

  pub same_action_sym : (a b : Action ⊥) → SameAction es a b → SameAction es b a
  same_action_sym a b h = (sym h.0, equal_all_sym a.args b.args h.1)

  pub same_action_trans : (a b c : Action ⊥) → SameAction es a b → SameAction es b c → SameAction es a c
  same_action_trans a b c h i = (h.0 ∙ i.0, equal_all_trans a.args b.args c.args h.1 i.1)

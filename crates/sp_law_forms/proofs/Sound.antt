-- What is narrowed is equal to what it came from, at all values that make the chosen pairs the same.
use Rattle.std.proofs.Common.{inl, inr, ◌+◌, List, [], ◌∷◌, map, Option, Some, None, refl, ◌∙◌, subst}
use Rattle.sp_spec.specs.Lists.{Member}
use Rattle.sp_spec.specs.Term.{Variable, Term, var, constant, name, app, Terms, none, more, Values, valued, valued_all}
use Rattle.sp_spec.specs.Signature.{Equation, RespectsSorts}
use Rattle.sp_spec.specs.Equal.{at_root, Equal, end, forth, EqualAll}
use Rattle.sp_spec.specs.Substitution.{Binding}
use Rattle.sp_spec.specs.Unifier.{Pair, MakesSame, mgu}
use Rattle.sp_spec.specs.Rule.{Fact, Action, Facts, fact_at, action_at, facts_at, SameFact, SameAction}
use Rattle.sp_spec.proofs.Lists.{member_mapped}
use Rattle.sp_law_equal.specs.Pointwise.{EachWith, AreSameFacts}
use Rattle.sp_law_equal.proofs.Chains.{equal_trans, equal_app}
use Rattle.sp_spec_forms.specs.Shifted.{above, shifted}
use Rattle.sp_spec_forms.specs.Narrowing.{Chosen, Ways, in_turn, both, each, if_unified, by_equation, choices, narrow, narrow_all, narrow_fact, narrow_action, narrow_facts}
use Rattle.sp_law_forms.proofs.Shifted.{shift, valued_shifted}
use Rattle.sp_law_forms.proofs.Lists.{member_flat_mapped}

each_mapped : {A B C D : Type 0} (R : C → D → Type 0) (f : A → C) (g : B → D) (xs : List A) (ys : List B)
    → EachWith (λ x y. R (f x) (g y)) xs ys → EachWith R (map f xs) (map g ys)
each_mapped R f g [] [] h = tt
each_mapped R f g [] (y ∷ ys) h = absurd h
each_mapped R f g (x ∷ xs) [] h = absurd h
each_mapped R f g (x ∷ xs) (y ∷ ys) h = (h.0, each_mapped R f g xs ys h.1)

module _ (es : List Equation) (w : Values) (sorts : RespectsSorts w) where
  -- each result holds, and the pairs were made the same before
  abbrev pub IsSound : {A : Type 0} → Ways A → (A → Type 0) → Type 0
  IsSound {A} m F = (s : Chosen) (r : A × Chosen) → Member r (m s) → MakesSame w r.1.pairs → MakesSame w s.pairs × F r.0

  abbrev Before : {A : Type 0} → (A → Type 0) → Chosen → A × Chosen → Type 0
  Before F s r = MakesSame w r.1.pairs → MakesSame w s.pairs × F r.0

  sound_done : {A : Type 0} (F : A → Type 0) (a : A) → F a → IsSound (λ s. (a, s) ∷ []) F
  sound_done {A} F a h s r (inl e) = subst (λ (q : A × Chosen). Before F s q) e (λ k. (k, h))
  sound_done F a h s r (inr n) = absurd n

  sound_in_turn : {A B : Type 0} (F : A → Type 0) (G : A → B → Type 0) (H : B → Type 0) (m : Ways A) (k : A → Ways B)
      → IsSound m F → ((a : A) → IsSound (k a) (G a)) → ((a : A) (b : B) → F a → G a b → H b) → IsSound (in_turn m k) H
  sound_in_turn {A} F G H m k h g join s r mem same =
      let c = member_flat_mapped (λ (q : A × Chosen). k q.0 q.1) r (m s) mem in
      let late = g c.0.0 c.0.1 r c.2 same in
      let early = h s c.0 c.1 late.0 in
      (early.0, join c.0.0 r.0 early.1 late.1)

  sound_map : {A B : Type 0} (F : A → Type 0) (G : B → Type 0) (f : A → B) (m : Ways A)
      → IsSound m F → ((a : A) → F a → G (f a)) → IsSound (λ s. map (λ r. (f r.0, r.1)) (m s)) G
  sound_map {A} {B} F G f m h to s r mem =
      let c = member_mapped (λ (q : A × Chosen). (f q.0, q.1)) r (m s) mem in
      subst (λ (q : B × Chosen). Before G s q) c.2 (λ same. let k = h s c.0 c.1 same in (k.0, to c.0.0 k.1))

  sound_both : {A B C : Type 0} (F : A → Type 0) (G : B → Type 0) (H : C → Type 0) (f : A → B → C) (m : Ways A) (k : Ways B)
      → IsSound m F → IsSound k G → ((a : A) (b : B) → F a → G b → H (f a b)) → IsSound (both f m k) H
  sound_both {A} {B} {C} F G H f m k h g join s r mem =
      let c = member_flat_mapped (λ (p : A × Chosen). map (λ (q : B × Chosen). (f p.0 q.0, q.1)) (k p.1)) r (m s) mem in
      let d = member_mapped (λ (q : B × Chosen). (f c.0.0 q.0, q.1)) r (k c.0.1) c.2 in
      subst (λ (q : C × Chosen). Before H s q) d.2
      (λ same.
      let late = g c.0.1 d.0 d.1 same in
      let early = h s c.0 c.1 late.0 in
      (early.0, join c.0.0 d.0.0 early.1 late.1))

  sound_each : {A B : Type 0} (F : A → B → Type 0) (m : A → Ways B) (h : (x : A) → IsSound (m x) (F x)) (xs : List A)
      → IsSound (each m xs) (λ ys. EachWith F xs ys)
  sound_each F m h [] = sound_done (λ ys. EachWith F [] ys) [] tt
  sound_each F m h (x ∷ xs) =
      sound_both (F x) (λ ys. EachWith F xs ys) (λ ys. EachWith F (x ∷ xs) ys) (λ y ys. y ∷ ys) (m x) (each m xs)
      (h x) (sound_each F m h xs) (λ y ys a b. (a, b))

  -- an equation that is used makes the term equal to its right side
  module _ (t : Term Variable) (s : Chosen) (e : Equation) (m : Member e es) (r : Term Variable × Chosen) where
    abbrev pairs : List Pair
    pairs = (t, shifted s.next e.left) ∷ s.pairs

    abbrev state : Chosen
    state = record { pairs = pairs; next = s.next + (above e.left + above e.right) }

    abbrev Was : Term Variable × Chosen → Type 0
    Was q = MakesSame w q.1.pairs → MakesSame w s.pairs × Equal es (valued w t) (valued w q.0)

    by_answer : (o : Option (List Binding)) → Member {A = Term Variable × Chosen} r (if_unified o (shifted s.next e.right, state)) → Was r
    by_answer None k = absurd k
    by_answer (Some bs) (inr k) = absurd k
    by_answer (Some bs) (inl k) =
        subst Was k
        (λ same. (
          same.1,
          forth (at_root e m (λ x. w (shift s.next x)) (λ x. sorts (shift s.next x)) (same.0 ∙ valued_shifted s.next w e.left) (valued_shifted s.next w e.right)) end,
        ))

    sound_by_equation : Member r (by_equation t s e) → Was r
    sound_by_equation = by_answer (mgu pairs)

  sound_choices : (t : Term Variable) → IsSound (choices es t) (λ u. Equal es (valued w t) (valued w u))
  sound_choices t s r (inl e) = subst (λ (q : Term Variable × Chosen). Before (λ u. Equal es (valued w t) (valued w u)) s q) e (λ k. (k, end))
  sound_choices t s r (inr m) =
      let c = member_flat_mapped (by_equation t s) r es m in
      sound_by_equation t s c.0 c.1 r c.2

  mutual
    sound_narrow : (t : Term Variable) → IsSound (narrow es t) (λ u. Equal es (valued w t) (valued w u))
    sound_narrow (var x) = sound_done (λ u. Equal es (w x) (valued w u)) (var x) end
    sound_narrow (constant c) = sound_done (λ u. Equal es (constant c) (valued w u)) (constant c) end
    sound_narrow (name n) = sound_done (λ u. Equal es (name n) (valued w u)) (name n) end
    sound_narrow (app f ts) =
        sound_in_turn (λ us. EqualAll es (valued_all w ts) (valued_all w us)) (λ us u. Equal es (app f (valued_all w us)) (valued w u))
        (λ u. Equal es (app f (valued_all w ts)) (valued w u))
        (narrow_all es ts) (λ us. choices es (app f us)) (sound_narrow_all ts) (λ us. sound_choices (app f us))
        (λ us u h k. equal_trans es _ _ _ (equal_app es f (valued_all w ts) (valued_all w us) h) k)

    sound_narrow_all : (ts : Terms Variable) → IsSound (narrow_all es ts) (λ us. EqualAll es (valued_all w ts) (valued_all w us))
    sound_narrow_all none = sound_done (λ us. EqualAll es none (valued_all w us)) none tt
    sound_narrow_all (more t ts) =
        sound_both (λ u. Equal es (valued w t) (valued w u)) (λ us. EqualAll es (valued_all w ts) (valued_all w us))
        (λ us. EqualAll es (valued_all w (more t ts)) (valued_all w us)) more (narrow es t) (narrow_all es ts)
        (sound_narrow t) (sound_narrow_all ts) (λ u us h k. (h, k))

  sound_fact : (f : Fact Variable) → IsSound (narrow_fact es f) (λ g. SameFact es (fact_at w f) (fact_at w g))
  sound_fact f =
      sound_map (λ us. EqualAll es (valued_all w f.args) (valued_all w us)) (λ g. SameFact es (fact_at w f) (fact_at w g))
      (λ us. record { symbol = f.symbol; persistent = f.persistent; args = us }) (narrow_all es f.args) (sound_narrow_all f.args) (λ us h. (refl, refl, h))

  sound_action : (a : Action Variable) → IsSound (narrow_action es a) (λ b. SameAction es (action_at w a) (action_at w b))
  sound_action a =
      sound_map (λ us. EqualAll es (valued_all w a.args) (valued_all w us)) (λ b. SameAction es (action_at w a) (action_at w b))
      (λ us. record { symbol = a.symbol; args = us }) (narrow_all es a.args) (sound_narrow_all a.args) (λ us h. (refl, h))

  -- facts that are narrowed are the same facts
  pub sound_facts : (f : Facts Variable) → IsSound (narrow_facts es f) (λ g. AreSameFacts es (facts_at w f) (facts_at w g))
  sound_facts f =
      let R : Fact Variable → Fact Variable → Type 0 = λ x y. SameFact es (fact_at w x) (fact_at w y) in
      let S : Action Variable → Action Variable → Type 0 = λ x y. SameAction es (action_at w x) (action_at w y) in
      sound_both (λ ps. EachWith R f.premises ps)
      (λ (r : List (Action Variable) × List (Fact Variable)). EachWith S f.actions r.0 × EachWith R f.conclusions r.1)
      (λ g. AreSameFacts es (facts_at w f) (facts_at w g))
      (λ ps (r : List (Action Variable) × List (Fact Variable)). record { premises = ps; actions = r.0; conclusions = r.1 })
      (each (narrow_fact es) f.premises)
      (both (λ as' cs. (as', cs)) (each (narrow_action es) f.actions) (each (narrow_fact es) f.conclusions))
      (sound_each R (narrow_fact es) sound_fact f.premises)
      (sound_both (λ as'. EachWith S f.actions as') (λ cs. EachWith R f.conclusions cs)
      (λ r. EachWith S f.actions r.0 × EachWith R f.conclusions r.1) (λ as' cs. (as', cs))
      (each (narrow_action es) f.actions) (each (narrow_fact es) f.conclusions)
      (sound_each S (narrow_action es) sound_action f.actions) (sound_each R (narrow_fact es) sound_fact f.conclusions) (λ as' cs p q. (p, q)))
      (λ ps r p q. record {
        premises = each_mapped (SameFact es) (fact_at w) (fact_at w) f.premises ps p;
        actions = each_mapped (SameAction es) (action_at w) (action_at w) f.actions r.0 q.0;
        conclusions = each_mapped (SameFact es) (fact_at w) (fact_at w) f.conclusions r.1 q.1;
      })

-- Values of facts.
use Rattle.std.proofs.Common.{◌≡◌, List, refl, ap, ap₂, sym, ◌∙◌}
use Rattle.sp_spec.specs.Term.{EachVariable, EachVariables, any_names, Names, Variable, Term, var, constant, name, app, Terms, none, more, Values, valued, valued_all, MadeOf, AllMadeOf}
use Rattle.sp_spec.specs.Rule.{Fact, Action, Facts, fact_at, action_at, facts_at, FactsMadeOf}
use Rattle.sp_spec.specs.Substitution.{Binding, bound_to, Fixes}
use Rattle.sp_spec.proofs.Lists.{every_weaken, every_all, map_each, map-map}
use Rattle.sp_spec.proofs.Values.{valued-valued, valued_all-valued_all}

mutual
  pub valued_same : (N : Names) → {V W : Type 0} (v w : V → Term W) (t : Term V) → MadeOf N (λ x. v x ≡ w x) t → valued v t ≡ valued w t
  valued_same N v w (var x) e = e
  valued_same N v w (constant c) e = refl
  valued_same N v w (name n) e = refl
  valued_same N v w (app f ts) e = ap (app f) (valued_all_same N v w ts e)

  pub valued_all_same : (N : Names) → {V W : Type 0} (v w : V → Term W) (ts : Terms V) → AllMadeOf N (λ x. v x ≡ w x) ts → valued_all v ts ≡ valued_all w ts
  valued_all_same N v w none e = refl
  valued_all_same N v w (more t ts) e = ap₂ more (valued_same N v w t e.0) (valued_all_same N v w ts e.1)

mutual
  pub each_of_all : {V : Type 0} (P : V → Type 0) → ((x : V) → P x) → (t : Term V) → EachVariable P t
  each_of_all P h (var x) = h x
  each_of_all P h (constant c) = tt
  each_of_all P h (name n) = tt
  each_of_all P h (app f ts) = each_of_all_terms P h ts

  pub each_of_all_terms : {V : Type 0} (P : V → Type 0) → ((x : V) → P x) → (ts : Terms V) → EachVariables P ts
  each_of_all_terms P h none = tt
  each_of_all_terms P h (more t ts) = (each_of_all P h t, each_of_all_terms P h ts)

-- where all values are the same
pub valued_equal : {V W : Type 0} (v w : V → Term W) → ((x : V) → v x ≡ w x) → (t : Term V) → valued v t ≡ valued w t
valued_equal v w e t = valued_same any_names v w t (each_of_all _ e t)

pub valued_all_equal : {V W : Type 0} (v w : V → Term W) → ((x : V) → v x ≡ w x) → (ts : Terms V) → valued_all v ts ≡ valued_all w ts
valued_all_equal v w e ts = valued_all_same any_names v w ts (each_of_all_terms _ e ts)

abbrev pub parts_of : {V : Type 0} → List (Fact V) → List (Action V) → List (Fact V) → Facts V
parts_of ps as' cs = record { premises = ps; actions = as'; conclusions = cs }

pub parts_same : {V : Type 0} (p q : List (Fact V)) (a b : List (Action V)) (c d : List (Fact V)) → p ≡ q → a ≡ b → c ≡ d → parts_of p a c ≡ parts_of q b d
parts_same p q a b c d e f g = ap (λ (x : _). parts_of x a c) e ∙ ap (λ (x : _). parts_of q x c) f ∙ ap (λ (x : _). parts_of q b x) g

fact_same : (N : Names) → {V W : Type 0} (v w : V → Term W) (f : Fact V) → AllMadeOf N (λ x. v x ≡ w x) f.args → fact_at v f ≡ fact_at w f
fact_same N {V} {W} v w f e = ap (λ (ts : Terms W). let g : Fact W = record { symbol = f.symbol; persistent = f.persistent; args = ts } in g) (valued_all_same N v w f.args e)

pub action_same : (N : Names) → {V W : Type 0} (v w : V → Term W) (a : Action V) → AllMadeOf N (λ x. v x ≡ w x) a.args → action_at v a ≡ action_at w a
action_same N {V} {W} v w a e = ap (λ (ts : Terms W). let g : Action W = record { symbol = a.symbol; args = ts } in g) (valued_all_same N v w a.args e)

pub facts_same : (N : Names) → {V W : Type 0} (v w : V → Term W) (facts : Facts V) → FactsMadeOf N (λ x. v x ≡ w x) facts → facts_at v facts ≡ facts_at w facts
facts_same N v w facts e =
    parts_same _ _ _ _ _ _
    (map_each (fact_at v) (fact_at w) facts.premises (every_weaken _ _ (fact_same N v w) facts.premises e.premises))
    (map_each (action_at v) (action_at w) facts.actions (every_weaken _ _ (action_same N v w) facts.actions e.actions))
    (map_each (fact_at v) (fact_at w) facts.conclusions (every_weaken _ _ (fact_same N v w) facts.conclusions e.conclusions))

pub action_at-action_at : {U V W : Type 0} (v : U → Term V) (w : V → Term W) (a : Action U) → action_at w (action_at v a) ≡ action_at (λ x. valued w (v x)) a
action_at-action_at {U} {V} {W} v w a = ap (λ (ts : Terms W). let g : Action W = record { symbol = a.symbol; args = ts } in g) (valued_all-valued_all v w a.args)

fact_at-fact_at : {U V W : Type 0} (v : U → Term V) (w : V → Term W) (f : Fact U) → fact_at w (fact_at v f) ≡ fact_at (λ x. valued w (v x)) f
fact_at-fact_at {U} {V} {W} v w f = ap (λ (ts : Terms W). let g : Fact W = record { symbol = f.symbol; persistent = f.persistent; args = ts } in g) (valued_all-valued_all v w f.args)

pub facts_at-facts_at : {U V W : Type 0} (v : U → Term V) (w : V → Term W) (facts : Facts U) → facts_at w (facts_at v facts) ≡ facts_at (λ x. valued w (v x)) facts
facts_at-facts_at v w facts =
    parts_same _ _ _ _ _ _
    (map-map (fact_at v) (fact_at w) facts.premises ∙ map_each _ _ facts.premises (every_all _ (fact_at-fact_at v w) facts.premises))
    (map-map (action_at v) (action_at w) facts.actions ∙ map_each _ _ facts.actions (every_all _ (action_at-action_at v w) facts.actions))
    (map-map (fact_at v) (fact_at w) facts.conclusions ∙ map_each _ _ facts.conclusions (every_all _ (fact_at-fact_at v w) facts.conclusions))

-- A substitution that the values fix changes no value.
pub fixed_term : (v : Values) (bs : List Binding) → Fixes v bs → (t : Term Variable) → valued v (valued (bound_to bs) t) ≡ valued v t
fixed_term v bs h t = valued-valued (bound_to bs) v t ∙ valued_equal _ v (λ x. sym (h x)) t

pub fixed_facts : (v : Values) (bs : List Binding) → Fixes v bs → (facts : Facts Variable) → facts_at v (facts_at (bound_to bs) facts) ≡ facts_at v facts
fixed_facts v bs h facts =
    facts_at-facts_at (bound_to bs) v facts
    ∙ facts_same any_names _ v facts (record {
      premises = every_all _ (λ f. each_of_all_terms _ (λ x. sym (h x)) f.args) facts.premises;
      actions = every_all _ (λ a. each_of_all_terms _ (λ x. sym (h x)) a.args) facts.actions;
      conclusions = every_all _ (λ f. each_of_all_terms _ (λ x. sym (h x)) f.args) facts.conclusions;
    })

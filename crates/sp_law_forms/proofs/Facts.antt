-- Facts whose variables are replaced, and the terms in them.
use Rattle.std.proofs.Common.{◌≡◌, List, [], ◌∷◌, ◌++◌, map, refl, ap, ap₂}
use Rattle.sp_spec.specs.Lists.{Every}
use Rattle.sp_spec.specs.Term.{Variable, Term, var, Terms, valued, valued_all}
use Rattle.sp_spec.specs.Rule.{Fact, Action, Facts, OfArguments, fact_at, action_at, facts_at}
use Rattle.sp_spec.proofs.Lists.{every_append, every_parts, every_map, every_all, every_weaken}
use Rattle.sp_spec.proofs.Values.{valued_all-valued_all}
use Rattle.sp_law_system.proofs.TermValues.{valued_var_all}
use Rattle.sp_spec_forms.specs.Reducible.{args_of}
use Rattle.sp_law_forms.proofs.Lists.{every_of_map}
use Rattle.sp_law_system.proofs.Facts.{parts_same}

abbrev pub made_fact : {V : Type 0} → Fact V → {W : Type 0} → Terms W → Fact W
made_fact f ts = record { symbol = f.symbol; persistent = f.persistent; args = ts }

abbrev pub made_action : {V : Type 0} → Action V → {W : Type 0} → Terms W → Action W
made_action a ts = record { symbol = a.symbol; args = ts }

-- what holds of the terms of each fact and each action holds of all terms, and back
module _ (P : Terms Variable → Type 0) (f : Facts Variable) where
  abbrev in_premises : List (Terms Variable)
  in_premises = map (λ p. p.args) f.premises

  abbrev in_actions : List (Terms Variable)
  in_actions = map (λ a. a.args) f.actions

  abbrev in_conclusions : List (Terms Variable)
  in_conclusions = map (λ c. c.args) f.conclusions

  pub to_arguments : Every P (args_of f) → OfArguments P f
  to_arguments h =
      let p = every_parts P in_premises (in_actions ++ in_conclusions) h in
      let q = every_parts P in_actions in_conclusions p.1 in
      record {
        premises = every_of_map P (λ (g : Fact Variable). g.args) f.premises p.0;
        actions = every_of_map P (λ (a : Action Variable). a.args) f.actions q.0;
        conclusions = every_of_map P (λ (g : Fact Variable). g.args) f.conclusions q.1;
      }

  pub of_arguments : OfArguments P f → Every P (args_of f)
  of_arguments h =
      every_append P in_premises (in_actions ++ in_conclusions)
      (every_map (λ (g : Fact Variable). P g.args) P (λ (g : Fact Variable). g.args) (λ g k. k) f.premises h.premises)
      (every_append P in_actions in_conclusions
      (every_map (λ (a : Action Variable). P a.args) P (λ (a : Action Variable). a.args) (λ a k. k) f.actions h.actions)
      (every_map (λ (g : Fact Variable). P g.args) P (λ (g : Fact Variable). g.args) (λ g k. k) f.conclusions h.conclusions))

-- what holds of the terms after a substitution
pub args_at : (s : Variable → Term Variable) (P Q : Terms Variable → Type 0) → ((ts : Terms Variable) → P ts → Q (valued_all s ts))
    → (f : Facts Variable) → OfArguments P f → OfArguments Q (facts_at s f)
args_at s P Q to f h = record {
  premises = every_map (λ (g : Fact Variable). P g.args) (λ (g : Fact Variable). Q g.args) (fact_at s) (λ g k. to g.args k) f.premises h.premises;
  actions = every_map (λ (a : Action Variable). P a.args) (λ (a : Action Variable). Q a.args) (action_at s) (λ a k. to a.args k) f.actions h.actions;
  conclusions = every_map (λ (g : Fact Variable). P g.args) (λ (g : Fact Variable). Q g.args) (fact_at s) (λ g k. to g.args k) f.conclusions h.conclusions;
}

-- facts are the same where their terms are
module _ {V W : Type 0} (a b : V → Term W) where
  abbrev pub SameArgs : Terms V → Type 0
  SameArgs ts = valued_all a ts ≡ valued_all b ts

  same_each_fact : (fs : List (Fact V)) → Every (λ (f : Fact V). SameArgs f.args) fs → map (fact_at a) fs ≡ map (fact_at b) fs
  same_each_fact [] h = refl
  same_each_fact (f ∷ fs) h = ap₂ (λ g gs. g ∷ gs) (ap (λ (ts : Terms W). made_fact f ts) h.0) (same_each_fact fs h.1)

  same_each_action : (xs : List (Action V)) → Every (λ (x : Action V). SameArgs x.args) xs → map (action_at a) xs ≡ map (action_at b) xs
  same_each_action [] h = refl
  same_each_action (x ∷ xs) h = ap₂ (λ g gs. g ∷ gs) (ap (λ (ts : Terms W). made_action x ts) h.0) (same_each_action xs h.1)

  pub same_facts_at : (f : Facts V) → OfArguments SameArgs f → facts_at a f ≡ facts_at b f
  same_facts_at f h =
      parts_same (map (fact_at a) f.premises) (map (fact_at b) f.premises) (map (action_at a) f.actions) (map (action_at b) f.actions)
      (map (fact_at a) f.conclusions) (map (fact_at b) f.conclusions)
      (same_each_fact f.premises h.premises) (same_each_action f.actions h.actions) (same_each_fact f.conclusions h.conclusions)

module _ {U V W : Type 0} (v : V → Term W) (s : U → Term V) where
  abbrev pub after : U → Term W
  after x = valued v (s x)

  fact_after : (fs : List (Fact U)) → map (fact_at v) (map (fact_at s) fs) ≡ map (fact_at after) fs
  fact_after [] = refl
  fact_after (f ∷ fs) = ap₂ (λ g gs. g ∷ gs) (ap (λ (ts : Terms W). made_fact f ts) (valued_all-valued_all s v f.args)) (fact_after fs)

  action_after : (xs : List (Action U)) → map (action_at v) (map (action_at s) xs) ≡ map (action_at after) xs
  action_after [] = refl
  action_after (x ∷ xs) = ap₂ (λ g gs. g ∷ gs) (ap (λ (ts : Terms W). made_action x ts) (valued_all-valued_all s v x.args)) (action_after xs)

  -- one after the other is the composition of the two
  pub facts_after : (f : Facts U) → facts_at v (facts_at s f) ≡ facts_at after f
  facts_after f =
      parts_same (map (fact_at v) (map (fact_at s) f.premises)) (map (fact_at after) f.premises)
      (map (action_at v) (map (action_at s) f.actions)) (map (action_at after) f.actions)
      (map (fact_at v) (map (fact_at s) f.conclusions)) (map (fact_at after) f.conclusions)
      (fact_after f.premises) (action_after f.actions) (fact_after f.conclusions)

-- facts with nothing put for their variables
fact_itself : {V : Type 0} (fs : List (Fact V)) → map (fact_at var) fs ≡ fs
fact_itself [] = refl
fact_itself {V} (f ∷ fs) = ap₂ (λ g gs. g ∷ gs) (ap (λ (ts : Terms V). made_fact f ts) (valued_var_all f.args)) (fact_itself fs)

action_itself : {V : Type 0} (xs : List (Action V)) → map (action_at var) xs ≡ xs
action_itself [] = refl
action_itself {V} (a ∷ xs) = ap₂ (λ b bs. b ∷ bs) (ap (λ (ts : Terms V). made_action a ts) (valued_var_all a.args)) (action_itself xs)

pub facts_itself : {V : Type 0} (f : Facts V) → facts_at var f ≡ f
facts_itself f =
    parts_same (map (fact_at var) f.premises) f.premises (map (action_at var) f.actions) f.actions (map (fact_at var) f.conclusions) f.conclusions
    (fact_itself f.premises) (action_itself f.actions) (fact_itself f.conclusions)

-- what holds of the arguments of facts
module _ {V : Type 0} (P Q : Terms V → Type 0) where
  pub arguments_weaken : ((ts : Terms V) → P ts → Q ts) → (f : Facts V) → OfArguments P f → OfArguments Q f
  arguments_weaken to f h = record {
    premises = every_weaken (λ (g : Fact V). P g.args) (λ (g : Fact V). Q g.args) (λ g k. to g.args k) f.premises h.premises;
    actions = every_weaken (λ (a : Action V). P a.args) (λ (a : Action V). Q a.args) (λ a k. to a.args k) f.actions h.actions;
    conclusions = every_weaken (λ (g : Fact V). P g.args) (λ (g : Fact V). Q g.args) (λ g k. to g.args k) f.conclusions h.conclusions;
  }

pub arguments_all : {V : Type 0} (P : Terms V → Type 0) → ((ts : Terms V) → P ts) → (f : Facts V) → OfArguments P f
arguments_all {V} P h f = record {
  premises = every_all (λ (g : Fact V). P g.args) (λ g. h g.args) f.premises;
  actions = every_all (λ (a : Action V). P a.args) (λ a. h a.args) f.actions;
  conclusions = every_all (λ (g : Fact V). P g.args) (λ g. h g.args) f.conclusions;
}

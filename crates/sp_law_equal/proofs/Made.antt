-- Terms and facts of such names and of such variables: where values are put in, where more variables are such ones, and where both are known apart.
use Rattle.sp_spec.specs.Term.{Names, Term, var, constant, name, app, Terms, none, more, valued, valued_all, MadeOf, AllMadeOf}
use Rattle.sp_spec.specs.Rule.{Facts, fact_at, action_at, facts_at, FactsMadeOf}
use Rattle.sp_spec.proofs.Lists.{every_map, every_weaken}

-- what holds of each variable of a term after values are put in
mutual
  pub each_valued : (N : Names) → {V W : Type 0} (P : V → Type 0) (Q : W → Type 0) (v : V → Term W) → ((x : V) → P x → MadeOf N Q (v x)) → (t : Term V) → MadeOf N P t → MadeOf N Q (valued v t)
  each_valued N P Q v h (var x) e = h x e
  each_valued N P Q v h (constant c) e = e
  each_valued N P Q v h (name n) e = e
  each_valued N P Q v h (app f ts) e = each_valued_all N P Q v h ts e

  pub each_valued_all : (N : Names) → {V W : Type 0} (P : V → Type 0) (Q : W → Type 0) (v : V → Term W) → ((x : V) → P x → MadeOf N Q (v x)) → (ts : Terms V) → AllMadeOf N P ts → AllMadeOf N Q (valued_all v ts)
  each_valued_all N P Q v h none e = tt
  each_valued_all N P Q v h (more t ts) e = (each_valued N P Q v h t e.0, each_valued_all N P Q v h ts e.1)

mutual
  pub each_weaken : (N : Names) → {V : Type 0} (P Q : V → Type 0) → ((x : V) → P x → Q x) → (t : Term V) → MadeOf N P t → MadeOf N Q t
  each_weaken N P Q h (var x) e = h x e
  each_weaken N P Q h (constant c) e = e
  each_weaken N P Q h (name n) e = e
  each_weaken N P Q h (app f ts) e = each_weaken_all N P Q h ts e

  pub each_weaken_all : (N : Names) → {V : Type 0} (P Q : V → Type 0) → ((x : V) → P x → Q x) → (ts : Terms V) → AllMadeOf N P ts → AllMadeOf N Q ts
  each_weaken_all N P Q h none e = tt
  each_weaken_all N P Q h (more t ts) e = (each_weaken N P Q h t e.0, each_weaken_all N P Q h ts e.1)

-- the variables of a rule's facts after values are put in
pub facts_valued : (N : Names) → {V W : Type 0} (P : V → Type 0) (Q : W → Type 0) (v : V → Term W) → ((x : V) → P x → MadeOf N Q (v x)) → (facts : Facts V) → FactsMadeOf N P facts → FactsMadeOf N Q (facts_at v facts)
facts_valued N P Q v h facts e = record {
  premises = every_map _ _ (fact_at v) (λ f k. each_valued_all N P Q v h f.args k) facts.premises e.premises;
  actions = every_map _ _ (action_at v) (λ a k. each_valued_all N P Q v h a.args k) facts.actions e.actions;
  conclusions = every_map _ _ (fact_at v) (λ f k. each_valued_all N P Q v h f.args k) facts.conclusions e.conclusions;
}

pub facts_weaken : (N : Names) → {V : Type 0} (P Q : V → Type 0) → ((x : V) → P x → Q x) → (facts : Facts V) → FactsMadeOf N P facts → FactsMadeOf N Q facts
facts_weaken N P Q h facts e = record {
  premises = every_weaken _ _ (λ f k. each_weaken_all N P Q h f.args k) facts.premises e.premises;
  actions = every_weaken _ _ (λ a k. each_weaken_all N P Q h a.args k) facts.actions e.actions;
  conclusions = every_weaken _ _ (λ f k. each_weaken_all N P Q h f.args k) facts.conclusions e.conclusions;
}

-- terms of such names, whose variables are such ones
module _ {V : Type 0} (N M : Names) (P : V → Type 0) where
  mutual
    pub made_both : (t : Term V) → MadeOf N (λ x. Unit {0}) t → MadeOf M P t → MadeOf N P t
    made_both (var x) n v = v
    made_both (constant c) n v = n
    made_both (name k) n v = n
    made_both (app f ts) n v = all_made_both ts n v

    pub all_made_both : (ts : Terms V) → AllMadeOf N (λ x. Unit {0}) ts → AllMadeOf M P ts → AllMadeOf N P ts
    all_made_both none n v = tt
    all_made_both (more t ts) n v = (made_both t n.0 v.0, all_made_both ts n.1 v.1)

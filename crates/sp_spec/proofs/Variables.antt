-- Terms whose leaves pass tests, and what terms under a partial valuation are.
use Rattle.std.proofs.Common.{◌≡◌, ℕ, Bool, true, List, Option, Some, option_map, refl, sym, ap, ap₂, subst}
use Rattle.std.proofs.lemmas.Bool.{and_parts, and_from}
use Rattle.sp_spec.specs.Term.{Term, var, constant, name, app, Terms, none, more, valued, valued_all, valued_where, valued_all_where, each_variable, each_variables, Names, MadeOf, AllMadeOf}
use Rattle.sp_spec.proofs.Options.{some_same, mapped, then_some}

-- what passes one test passes another
module _ {V : Type 0} (P Q : V → Bool) (keeps : (x : V) → P x ≡ true → Q x ≡ true) where
  mutual
    pub each_kept : (t : Term V) → each_variable P t ≡ true → each_variable Q t ≡ true
    each_kept (var x) e = keeps x e
    each_kept (constant c) e = refl
    each_kept (name n) e = refl
    each_kept (app f ts) e = all_kept ts e

    pub all_kept : (ts : Terms V) → each_variables P ts ≡ true → each_variables Q ts ≡ true
    all_kept none e = refl
    all_kept (more t ts) e =
        let r = and_parts (each_variable P t) (each_variables P ts) e in
        and_from (each_variable Q t) (each_variables Q ts) (each_kept t r.0) (all_kept ts r.1)

module _ {V : Type 0} (P : V → Bool) where
  -- values that agree where the test is passed
  module _ {W : Type 0} (v w : V → Term W) (same : (x : V) → P x ≡ true → v x ≡ w x) where
    mutual
      pub each_valued : (t : Term V) → each_variable P t ≡ true → valued v t ≡ valued w t
      each_valued (var x) e = same x e
      each_valued (constant c) e = refl
      each_valued (name n) e = refl
      each_valued (app f ts) e = ap (app f) (all_valued ts e)

      all_valued : (ts : Terms V) → each_variables P ts ≡ true → valued_all v ts ≡ valued_all w ts
      all_valued none e = refl
      all_valued (more t ts) e =
          let r = and_parts (each_variable P t) (each_variables P ts) e in
          ap₂ more (each_valued t r.0) (all_valued ts r.1)

-- What goes from the leaves to the terms holds of each term and of what it is under the partial valuation.
pub record Carries {V W : Type 0} (v : V → Option (Term W)) (R : Term V → Term W → Type 0) (Rs : Terms V → Terms W → Type 0) : Type 0 where
  pub leaf : (x : V) (u : Term W) → v x ≡ Some u → R (var x) u
  pub constants : (c : List ℕ) → R (constant c) (constant c)
  pub names : (n : ℕ) → R (name n) (name n)
  pub under : (f : List ℕ) (ts : Terms V) (us : Terms W) → Rs ts us → R (app f ts) (app f us)
  pub end : Rs none none
  pub beside : (t : Term V) (u : Term W) (ts : Terms V) (us : Terms W) → R t u → Rs ts us → Rs (more t ts) (more u us)

module _ {V W : Type 0} (v : V → Option (Term W)) where
  module _ (R : Term V → Term W → Type 0) (Rs : Terms V → Terms W → Type 0) (carries : Carries v R Rs) where
    mutual
      pub where_carried : (t : Term V) (u : Term W) → valued_where v t ≡ Some u → R t u
      where_carried (var x) u e = carries.leaf x u e
      where_carried (constant c) u e = subst (R (constant c)) (sym (some_same (constant c) u e)) (carries.constants c)
      where_carried (name n) u e = subst (R (name n)) (sym (some_same (name n) u e)) (carries.names n)
      where_carried (app f ts) u e =
          let r = mapped (app f) (valued_all_where v ts) u e in
          subst (R (app f ts)) (sym r.2) (carries.under f ts r.0 (all_where_carried ts r.0 r.1))

      pub all_where_carried : (ts : Terms V) (us : Terms W) → valued_all_where v ts ≡ Some us → Rs ts us
      all_where_carried none us e = subst (Rs none) (sym (some_same none us e)) carries.end
      all_where_carried (more t ts) us e =
          let r = then_some (λ u. option_map (more u) (valued_all_where v ts)) (valued_where v t) us e in
          let q = mapped (more r.0) (valued_all_where v ts) us r.2 in
          subst (Rs (more t ts)) (sym q.2) (carries.beside t r.0 ts q.0 (where_carried t r.0 r.1) (all_where_carried ts q.0 q.1))

  -- The value of the term is that of what it is, where this is so of the leaves.
  module _ {X : Type 0} (f : V → Term X) (w : W → Term X) (leaf : (x : V) (u : Term W) → v x ≡ Some u → f x ≡ valued w u) where
    abbrev SameValue : Term V → Term W → Type 0
    SameValue t u = valued f t ≡ valued w u

    abbrev SameValues : Terms V → Terms W → Type 0
    SameValues ts us = valued_all f ts ≡ valued_all w us

    same_carried : Carries v SameValue SameValues
    same_carried = record { leaf = leaf; constants = λ c. refl; names = λ n. refl; under = λ f ts us e. ap (app f) e; end = refl; beside = λ t u ts us e k. ap₂ more e k }

    pub where_value : (t : Term V) (u : Term W) → valued_where v t ≡ Some u → valued f t ≡ valued w u
    where_value t u e = where_carried SameValue SameValues same_carried t u e

    pub where_values : (ts : Terms V) (us : Terms W) → valued_all_where v ts ≡ Some us → valued_all f ts ≡ valued_all w us
    where_values ts us e = all_where_carried SameValue SameValues same_carried ts us e

  -- It is made of such names and variables.
  module _ (N : Names) (P : V → Type 0) (Q : W → Type 0) (leaf : (x : V) (u : Term W) → v x ≡ Some u → P x → MadeOf N Q u) where
    abbrev Made : Term V → Term W → Type 0
    Made t u = MadeOf N P t → MadeOf N Q u

    abbrev AllMade : Terms V → Terms W → Type 0
    AllMade ts us = AllMadeOf N P ts → AllMadeOf N Q us

    made_carried : Carries v Made AllMade
    made_carried = record { leaf = leaf; constants = λ c h. h; names = λ n h. h; under = λ f ts us h. h; end = λ h. h; beside = λ t u ts us h k p. (h p.0, k p.1) }

    pub where_made : (t : Term V) (u : Term W) → valued_where v t ≡ Some u → MadeOf N P t → MadeOf N Q u
    where_made t u e = where_carried Made AllMade made_carried t u e

    pub where_all_made : (ts : Terms V) (us : Terms W) → valued_all_where v ts ≡ Some us → AllMadeOf N P ts → AllMadeOf N Q us
    where_all_made ts us e = all_where_carried Made AllMade made_carried ts us e

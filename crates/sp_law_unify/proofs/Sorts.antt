-- Of what sort a term is, ground or over variables, and that this is kept where variables are replaced.
use Rattle.std.proofs.Common.{◌≡◌, ℕ, true, List, refl, subst}
use Rattle.sp_spec.specs.Term.{Sort, Msg, Fresh, Pub, Variable, Term, var, constant, name, app, Terms, Ground, valued}
use Rattle.sp_spec.specs.Signature.{HasSort}
use Rattle.sp_spec.specs.Unifier.{may_stand}
use Rattle.sp_law_unify.specs.MostGeneral.{IsOfSort, KeepsSorts}
use Rattle.sp_law_unify.proofs.Values.{IsNoVariable}

-- what terms have to be of a sort: any term is of msg, fresh names and public names have their sorts, and nothing else has both
pub record AreSorts {W : Type 0} (Is : Sort → Term W → Type 0) : Type 0 where
  pub any : (t : Term W) → Is Msg t
  pub fresh : (n : ℕ) → Is Fresh (name n)
  pub public : (c : List ℕ) → Is Pub (constant c)
  pub apart : (t : Term W) → Is Fresh t → Is Pub t → ⊥
  pub no_constant : (c : List ℕ) → Is Fresh (constant c) → ⊥
  pub no_name : (n : ℕ) → Is Pub (name n) → ⊥
  pub no_fresh_app : (f : List ℕ) (ts : Terms W) → Is Fresh (app f ts) → ⊥
  pub no_public_app : (f : List ℕ) (ts : Terms W) → Is Pub (app f ts) → ⊥

ground_apart : (t : Ground) → HasSort Fresh t → HasSort Pub t → ⊥
ground_apart (var x) h k = x
ground_apart (constant c) h k = h
ground_apart (name n) h k = k
ground_apart (app f ts) h k = h

pub ground_sorts : AreSorts HasSort
ground_sorts = record {
  any = λ t. tt;
  fresh = λ n. tt;
  public = λ c. tt;
  apart = ground_apart;
  no_constant = λ c h. h;
  no_name = λ n h. h;
  no_fresh_app = λ f ts h. h;
  no_public_app = λ f ts h. h;
}

term_apart : (t : Term Variable) → IsOfSort Fresh t → IsOfSort Pub t → ⊥
term_apart (var x) h k = cc
term_apart (constant c) h k = h
term_apart (name n) h k = k
term_apart (app f ts) h k = h

pub term_sorts : AreSorts IsOfSort
term_sorts = record {
  any = λ t. tt;
  fresh = λ n. tt;
  public = λ c. tt;
  apart = term_apart;
  no_constant = λ c h. h;
  no_name = λ n h. h;
  no_fresh_app = λ f ts h. h;
  no_public_app = λ f ts h. h;
}

-- a variable is of its own sort
is_of_own : (s : Sort) (x : Variable) → x.sort ≡ s → IsOfSort s (var x)
is_of_own Msg x e = tt
is_of_own Fresh x e = e
is_of_own Pub x e = e

pub nothing_put : KeepsSorts var
nothing_put x = is_of_own x.sort x refl

pub same_sort_stands : (x y : Variable) → y.sort ≡ x.sort → IsOfSort x.sort (var y)
same_sort_stands x y e = is_of_own x.sort y e

-- a term that may stand for a variable of the sort is of it
pub may_stand_is : (s : Sort) (t : Term Variable) → IsNoVariable t → may_stand s t ≡ true → IsOfSort s t
may_stand_is Msg t n e = tt
may_stand_is Fresh (var x) n e = absurd n
may_stand_is Fresh (constant c) n e = absurd cc
may_stand_is Fresh (name m) n e = tt
may_stand_is Fresh (app f ts) n e = absurd cc
may_stand_is Pub (var x) n e = absurd n
may_stand_is Pub (constant c) n e = tt
may_stand_is Pub (name m) n e = absurd cc
may_stand_is Pub (app f ts) n e = absurd cc

module _ {W : Type 0} (Is : Sort → Term W → Type 0) (sorts : AreSorts Is) (v : Variable → Term W) where
  -- a term whose value is of the sort may stand for a variable of the sort
  pub may_stand_by_value : (s : Sort) (t : Term Variable) → IsNoVariable t → Is s (valued v t) → may_stand s t ≡ true
  may_stand_by_value Msg t n h = refl
  may_stand_by_value Fresh (var x) n h = absurd n
  may_stand_by_value Fresh (constant c) n h = absurd (sorts.no_constant c h)
  may_stand_by_value Fresh (name m) n h = refl
  may_stand_by_value Fresh (app f ts) n h = absurd (sorts.no_fresh_app f _ h)
  may_stand_by_value Pub (var x) n h = absurd n
  may_stand_by_value Pub (constant c) n h = refl
  may_stand_by_value Pub (name m) n h = absurd (sorts.no_name m h)
  may_stand_by_value Pub (app f ts) n h = absurd (sorts.no_public_app f _ h)

  -- the value of a term of the sort is of the sort
  pub sort_of_value : ((x : Variable) → Is x.sort (v x)) → (s : Sort) (t : Term Variable) → IsOfSort s t → Is s (valued v t)
  sort_of_value h Msg t k = sorts.any (valued v t)
  sort_of_value h Fresh (var x) k = subst (λ s. Is s (v x)) k (h x)
  sort_of_value h Fresh (constant c) k = absurd k
  sort_of_value h Fresh (name n) k = sorts.fresh n
  sort_of_value h Fresh (app f ts) k = absurd k
  sort_of_value h Pub (var x) k = subst (λ s. Is s (v x)) k (h x)
  sort_of_value h Pub (constant c) k = sorts.public c
  sort_of_value h Pub (name n) k = absurd k
  sort_of_value h Pub (app f ts) k = absurd k

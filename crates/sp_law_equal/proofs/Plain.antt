-- Where each term has one normal form, no left side matches an application of a symbol that isn't a destructor: such a left side would be a variable
-- for all messages. So instances of terms without destructors have their normal forms at the normal forms of the values.
use Rattle.std.proofs.Common.{◌≡◌, ⊎_elim, Bool, true, false, cond, if◌then◌else◌, ℕ, List, [], ◌∷◌, refl, sym, ap, ◌∙◌, subst}
use Rattle.sp_spec.specs.Lists.{Member}
use Rattle.sp_spec.specs.Term.{Sort, Msg, Fresh, Pub, Variable, Term, var, constant, name, app, Terms, none, Ground, Grounds, Values, valued, valued_all}
use Rattle.sp_spec.specs.Signature.{Equation, HasSort, RespectsSorts}
use Rattle.sp_spec.specs.Equal.{Equal, at_root, end, forth, MatchesNone, IsNormal}
use Rattle.sp_spec.specs.Same.{same_variable}
use Rattle.sp_law_equal.specs.Matching.{value_in}
use Rattle.sp_law_equal.specs.Destructors.{HasRoot, IsDestructor, IsPlain, ArePlain}
use Rattle.sp_law_equal.specs.Normal.{reduced, normal, normal_all}
use Rattle.sp_law_equal.specs.NormalForms.{HaveNormalForms}
use Rattle.sp_spec.proofs.Same.{same_variable_decides}
use Rattle.sp_law_equal.proofs.Forms.{Used, reduced_by, normals, OthersMatchNone, plain_form, plain_form_all}

-- the values, but this one at the variable
abbrev with_value : Values → Variable → Ground → Values
with_value v x t y = if same_variable x y then t else v y

with_value_there : (v : Values) (x : Variable) (t : Ground) → with_value v x t x ≡ t
with_value_there v x t = ap (λ (b : Bool). cond b t (v x)) ((same_variable_decides x x).1 refl)

with_value_respects : (v : Values) (x : Variable) (t : Ground) → RespectsSorts v → HasSort x.sort t → RespectsSorts (with_value v x t)
with_value_respects v x t r h y = by_test (same_variable x y) refl
  where
    by_test : (b : Bool) → same_variable x y ≡ b → HasSort y.sort (cond b t (v y))
    by_test true e = subst (λ (z : Variable). HasSort z.sort t) ((same_variable_decides x y).0 e) h
    by_test false e = r y

-- the term is no application
abbrev IsBare : Ground → Type 0
IsBare (app f ts) = ⊥
IsBare t = Unit {0}

-- a variable with an application as its value takes all messages
takes_all : (s : Sort) (f : List ℕ) (us : Grounds) (t : Ground) → HasSort s (app f us) → HasSort s t
takes_all Msg f us t h = tt
takes_all Fresh f us t h = absurd h
takes_all Pub f us t h = absurd h

module _ (es : List Equation) (good : HaveNormalForms es) where
  -- a left side that is a variable for all messages matches every application, so that normal terms are none
  bare_if_normal : (e : Equation) → Member e es → (x : Variable) → e.left ≡ var x → ((t : Ground) → HasSort x.sort t) → (v : Values) → RespectsSorts v
      → (t : Ground) → IsNormal es t → IsBare t
  bare_if_normal e m x is all v r (var y) n = absurd y
  bare_if_normal e m x is all v r (constant c) n = tt
  bare_if_normal e m x is all v r (name k) n = tt
  bare_if_normal e m x is all v r (app g ts) n =
      let w = with_value v x (app g ts) in
      n.1 e m w (with_value_respects v x (app g ts) r (all (app g ts))) (ap (valued w) is ∙ with_value_there v x (app g ts))

  -- an instance that is no application, where the variable's value is one, stays where the variable's value changes
  stays_bare : (v : Values) (y : Variable) (f : List ℕ) (us : Grounds) → v y ≡ app f us → (t : Ground) → (r : Term Variable) → IsBare (valued v r)
      → valued (with_value v y t) r ≡ valued v r
  stays_bare v y f us at t (var z) b = by_test (same_variable y z) refl
    where
      by_test : (c : Bool) → same_variable y z ≡ c → cond c t (v z) ≡ v z
      by_test true e = absurd (subst IsBare (ap v (sym ((same_variable_decides y z).0 e)) ∙ at) b)
      by_test false e = refl
  stays_bare v y f us at t (constant c) b = refl
  stays_bare v y f us at t (name k) b = refl
  stays_bare v y f us at t (app g ts) b = absurd b

  -- an equation whose left side is a variable can't be used at an application and lead to what is none: it would make all public names equal
  not_used : (d : Equation) → Member d es → (y : Variable) → d.left ≡ var y → (v : Values) → RespectsSorts v → (f : List ℕ) (us : Grounds)
      → v y ≡ app f us → IsBare (valued v d.right) → ⊥
  not_used d m y is v r f us at b =
      let all : (t : Ground) → HasSort y.sort t = λ t. takes_all y.sort f us t (subst (HasSort y.sort) at (r y)) in
      let leads : (t : Ground) → normal es t ≡ normal es (valued v d.right) = λ t.
      let w = with_value v y t in
      let link : Equal es t (valued v d.right) =
      forth (at_root d m w (with_value_respects v y t r (all t)) (sym (ap (valued w) is ∙ with_value_there v y t)) (sym (stays_bare v y f us at t d.right b))) end in
      (good.decides t (valued v d.right)).0 link in
      let same : constant [] ≡ constant (0 ∷ []) = leads (constant []) ∙ sym (leads (constant (0 ∷ []))) in
      cc

  module _ (f : List ℕ) (other : IsDestructor es f → ⊥) where
    -- a left side that matches an application of the symbol is a variable
    by_left : (d : Equation) → Member d es → (v : Values) → (us : Grounds) → (l : Term Variable) → d.left ≡ l → valued v l ≡ app f us
        → (x : Variable) × (d.left ≡ var x) × (v x ≡ app f us)
    by_left d m v us (var x) is k = (x, is, k)
    by_left d m v us (constant c) is k = absurd cc
    by_left d m v us (name n) is k = absurd cc
    by_left d m v us (app g ts) is k = let root : g ≡ f = cc in absurd (other (d, m, subst (λ (l : Term Variable). HasRoot f l) (sym is) root))

    -- so at the symbol without arguments `normal` uses such an equation, which leads to no application, or else none matches and it stays: neither can be
    no_variable : (e : Equation) → Member e es → (x : Variable) → e.left ≡ var x → ((t : Ground) → HasSort x.sort t) → (v : Values) → RespectsSorts v → ⊥
    no_variable e m x is all v r = ⊎_elim (λ u. used u) (λ n. unused n.1) (reduced_by es (app f none))
      where
        bare : IsBare (normal es (app f none))
        bare = bare_if_normal e m x is all v r (normal es (app f none)) (good.is_normal (app f none))

        used : Used es (app f none) (reduced es (app f none)) → ⊥
        used u =
            let w = value_in u.1 in
            let left = by_left u.0 u.2 w none u.0.left refl u.3.gives in
            not_used u.0 u.2 left.0 left.1 w u.3.respects f none left.2 (subst IsBare u.4 bare)

        unused : MatchesNone es (app f none) → ⊥
        unused n = bare_if_normal e m x is all v r (app f none) (tt, n)

  -- no left side matches an application of a symbol that isn't a destructor
  pub plain_matches_none : OthersMatchNone es
  plain_matches_none f us other e m v r k =
      let left = by_left f other e m v us e.left refl k in
      no_variable f other e m left.0 left.1 (λ t. takes_all left.0.sort f us t (subst (HasSort left.0.sort) left.2 (r left.0))) v r

  -- the normal form of an instance of a plain term is its instance at the normal forms
  pub normal_plain : (v : Values) (t : Term Variable) → IsPlain es t → normal es (valued v t) ≡ valued (normals es v) t
  normal_plain v t p = plain_form es plain_matches_none v t p

  pub normal_plain_all : (v : Values) (ts : Terms Variable) → ArePlain es ts → normal_all es (valued_all v ts) ≡ valued_all (normals es v) ts
  normal_plain_all v ts p = plain_form_all es plain_matches_none v ts p

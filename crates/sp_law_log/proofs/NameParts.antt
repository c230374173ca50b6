-- Where a fresh name in the value of a term stands.
use Rattle.std.proofs.Common.{◌≡◌, ℕ, List, [], ◌∷◌, refl, sym, subst, inl, inr}
use Rattle.sp_spec.specs.Lists.{Member}
use Rattle.sp_spec.specs.Term.{MadeOf, AllMadeOf, Fresh, Pub, Variable, Term, var, constant, name, app, Terms, none, more, Ground, Values, valued, valued_all}
use Rattle.sp_spec.specs.Signature.{HasSort}
use Rattle.sp_spec.specs.Rule.{Fact}
use Rattle.sp_law_equal.specs.Parts.{IsPart, IsPartOfOne}
use Rattle.sp_law_equal.specs.RightTheory.{StandsIn, StandsAmong, HasVariable, no_fresh_names}
use Rattle.sp_law_equal.proofs.Parts.{part_itself}

-- what stands in a part stands in the whole
module _ {V : Type 0} (r t : Term V) (within : IsPart r t) where
  abbrev whole_part : (u : Term V) → t ≡ u → IsPart r u
  whole_part u e = subst (IsPart r) e within

  mutual
    pub part_within : (u : Term V) → IsPart t u → IsPart r u
    part_within (var x) p = whole_part (var x) p
    part_within (constant c) p = whole_part (constant c) p
    part_within (name n) p = whole_part (name n) p
    part_within (app f us) (inl p) = whole_part (app f us) p
    part_within (app f us) (inr p) = inr (part_within_one us p)

    part_within_one : (us : Terms V) → IsPartOfOne t us → IsPartOfOne r us
    part_within_one none p = absurd p
    part_within_one (more u us) (inl p) = inl (part_within u p)
    part_within_one (more u us) (inr p) = inr (part_within_one us p)

-- the value of a variable stands in that of each term in which the variable stands
module _ {W : Type 0} (v : Variable → Term W) (x : Variable) where
  mutual
    pub value_part : (t : Term Variable) → StandsIn x t → IsPart (v x) (valued v t)
    value_part (var y) s = subst (λ (z : Variable). IsPart (v x) (v z)) (sym s) (part_itself (v x))
    value_part (constant c) s = absurd s
    value_part (name m) s = absurd s
    value_part (app f ts) s = inr (value_part_of_one ts s)

    pub value_part_of_one : (ts : Terms Variable) → StandsAmong x ts → IsPartOfOne (v x) (valued_all v ts)
    value_part_of_one none s = absurd s
    value_part_of_one (more t ts) (inl s) = inl (value_part t s)
    value_part_of_one (more t ts) (inr s) = inr (value_part_of_one ts s)

module _ (v : Values) (n : ℕ) where
  -- a name that stands in the value of a term without names stands in that of one of its variables
  mutual
    from_variable : (P : Variable → Type 0) (t : Term Variable) → MadeOf no_fresh_names P t → IsPart (name n) (valued v t) → (x : Variable) × P x × IsPart (name n) (v x)
    from_variable P (var x) h p = (x, h, p)
    from_variable P (constant c) h p = absurd cc
    from_variable P (name m) h p = absurd h
    from_variable P (app f ts) h (inl p) = absurd cc
    from_variable P (app f ts) h (inr p) = from_variables P ts h p

    pub from_variables : (P : Variable → Type 0) (ts : Terms Variable) → AllMadeOf no_fresh_names P ts → IsPartOfOne (name n) (valued_all v ts) → (x : Variable) × P x × IsPart (name n) (v x)
    from_variables P none h p = absurd p
    from_variables P (more t ts) h (inl p) = from_variable P t h.0 p
    from_variables P (more t ts) h (inr p) = from_variables P ts h.1 p

  -- the fact in which the variable stands has the name where the variable's value has
  name_among : (x : Variable) → IsPart (name n) (v x) → (ts : Terms Variable) → StandsAmong x ts → IsPartOfOne (name n) (valued_all v ts)
  name_among x p ts s = part_within_one (name n) (v x) p (valued_all v ts) (value_part_of_one v x ts s)

  pub in_premise : (x : Variable) → IsPart (name n) (v x) → (fs : List (Fact Variable)) → HasVariable x fs → (f : Fact Variable) × Member f fs × IsPartOfOne (name n) (valued_all v f.args)
  in_premise x p [] h = absurd h
  in_premise x p (f ∷ fs) (inl h) = (f, inl refl, name_among x p f.args h)
  in_premise x p (f ∷ fs) (inr h) = let r = in_premise x p fs h in (r.0, inr r.1, r.2)

-- no fresh name stands in a public name, and in a fresh name only itself
pub in_public : (n : ℕ) (t : Ground) → HasSort Pub t → IsPart (name n) t → ⊥
in_public n (var x) h p = absurd x
in_public n (constant c) h p = absurd cc
in_public n (name m) h p = h
in_public n (app f ts) h p = h

pub in_fresh : (n : ℕ) (t : Ground) → HasSort Fresh t → IsPart (name n) t → t ≡ name n
in_fresh n (var x) h p = absurd x
in_fresh n (constant c) h p = absurd h
in_fresh n (name m) h p = sym p
in_fresh n (app f ts) h p = absurd h

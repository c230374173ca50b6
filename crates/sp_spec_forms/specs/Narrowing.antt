-- Narrowing: all ways to use the equations, from left to right, at the places of terms, one place after the other from the leaves up. Source:
-- Hullot, "Canonical forms and unification" (basic narrowing); Comon-Lundh and Delaune, "The finite variant property".
use Rattle.std.specs.Prelude.{ℕ, ◌+◌, List, [], ◌∷◌, map, Option, Some, None}
use Rattle.std.specs.List.{flat_map}
use Rattle.sp_spec.specs.Term.{Variable, Term, var, constant, name, app, Terms, none, more}
use Rattle.sp_spec.specs.Signature.{Equation}
use Rattle.sp_spec.specs.Substitution.{Binding}
use Rattle.sp_spec.specs.Unifier.{Pair, mgu}
use Rattle.sp_spec.specs.Rule.{Fact, Action, Facts}
use Rattle.sp_spec_forms.specs.Shifted.{above, shifted}

-- what was chosen so far: the pairs of terms that it makes the same, and a number above that of each variable
pub record Chosen : Type 0 where
  pub pairs : List Pair
  pub next : ℕ

-- all ways to make an A, in order, each with what was chosen on it
abbrev pub Ways : Type 0 → Type 0
Ways A = Chosen → List (A × Chosen)

-- the second goes on from what the first made
abbrev pub in_turn : {A B : Type 0} → Ways A → (A → Ways B) → Ways B
in_turn m k s = flat_map (λ r. k r.0 r.1) (m s)

-- first the one, then the other
abbrev pub both : {A B C : Type 0} → (A → B → C) → Ways A → Ways B → Ways C
both f m k s = flat_map (λ r. map (λ q. (f r.0 q.0, q.1)) (k r.1)) (m s)

-- one element after the other
abbrev pub each : {A B : Type 0} → (A → Ways B) → List A → Ways (List B)
each m [] s = ([], s) ∷ []
each m (x ∷ xs) s = both (λ y ys. y ∷ ys) (m x) (each m xs) s

abbrev pub if_unified : {A : Type 0} → Option (List Binding) → A → List A
if_unified None x = []
if_unified (Some bs) x = x ∷ []

-- the term is made an instance of the equation's left side, with new variables, and replaced by the right side, if that can be with what was chosen
abbrev pub by_equation : Term Variable → Chosen → Equation → List (Term Variable × Chosen)
by_equation t s e =
    let pairs : List Pair = (t, shifted s.next e.left) ∷ s.pairs in
    if_unified (mgu pairs) (shifted s.next e.right, record { pairs = pairs; next = s.next + (above e.left + above e.right) })

-- the term is left as it is, or an equation is used at its root
abbrev pub choices : List Equation → Term Variable → Ways (Term Variable)
choices es t s = (t, s) ∷ flat_map (by_equation t s) es

-- the arguments before the root, from left to right
abbrev mutual
  pub narrow : List Equation → Term Variable → Ways (Term Variable)
  narrow es (app f ts) s = in_turn (narrow_all es ts) (λ us. choices es (app f us)) s
  narrow es (var x) s = (var x, s) ∷ []
  narrow es (constant c) s = (constant c, s) ∷ []
  narrow es (name n) s = (name n, s) ∷ []

  pub narrow_all : List Equation → Terms Variable → Ways (Terms Variable)
  narrow_all es none s = (none, s) ∷ []
  narrow_all es (more t ts) s = both more (narrow es t) (narrow_all es ts) s

abbrev pub narrow_fact : List Equation → Fact Variable → Ways (Fact Variable)
narrow_fact es f s = map (λ r. (record { symbol = f.symbol; persistent = f.persistent; args = r.0 }, r.1)) (narrow_all es f.args s)

abbrev pub narrow_action : List Equation → Action Variable → Ways (Action Variable)
narrow_action es a s = map (λ r. (record { symbol = a.symbol; args = r.0 }, r.1)) (narrow_all es a.args s)

-- premises, then actions, then conclusions
abbrev pub narrow_facts : List Equation → Facts Variable → Ways (Facts Variable)
narrow_facts es f s =
    both (λ ps (r : List (Action Variable) × List (Fact Variable)). record { premises = ps; actions = r.0; conclusions = r.1 })
    (each (narrow_fact es) f.premises)
    (both (λ as' cs. (as', cs)) (each (narrow_action es) f.actions) (each (narrow_fact es) f.conclusions))
    s

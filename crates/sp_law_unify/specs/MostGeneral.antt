-- What a most general unifier of pairs of terms is, by sorts. Source: CSF 2012, "Constraint solving" (unification of order-sorted
-- terms); Baader and Snyder, "Unification Theory" (most general and idempotent unifiers).
use Rattle.std.specs.Prelude.{◌≡◌, ◌⊎◌, ◌<◌, List}
use Rattle.sp_spec.specs.Lists.{Every}
use Rattle.sp_spec.specs.Term.{Sort, Msg, Fresh, Pub, Variable, Term, var, constant, name, Values, valued}
use Rattle.sp_spec.specs.Signature.{RespectsSorts}
use Rattle.sp_spec.specs.Substitution.{Binding, bound_to, Fixes}
use Rattle.sp_spec.specs.Unifier.{Pair, MakesSame}

-- a term of the sort, whatever its variables stand for: a variable has its own sort
abbrev pub IsOfSort : Sort → Term Variable → Type 0
IsOfSort Msg t = Unit {0}
IsOfSort Fresh (name n) = Unit {0}
IsOfSort Fresh (var x) = x.sort ≡ Fresh
IsOfSort Fresh t = ⊥
IsOfSort Pub (constant c) = Unit {0}
IsOfSort Pub (var x) = x.sort ≡ Pub
IsOfSort Pub t = ⊥

-- what is put for each variable
abbrev pub Substitution : Type 0
Substitution = Variable → Term Variable

-- what is put for a variable is of its sort
abbrev pub KeepsSorts : Substitution → Type 0
KeepsSorts s = (x : Variable) → IsOfSort x.sort (s x)

-- the two terms of each pair become one term, and sorts are kept
pub record IsUnifier (pairs : List Pair) (s : Substitution) : Type 0 where
  pub makes_same : Every (λ (p : Pair). valued s p.0 ≡ valued s p.1) pairs
  pub keeps : KeepsSorts s

-- values of the variables' sorts that make the pairs the same
pub record AreSolution (pairs : List Pair) (v : Values) : Type 0 where
  pub respects : RespectsSorts v
  pub makes_same : MakesSame v pairs

-- the values after the bindings: a variable has the value of what it is bound to
abbrev pub values_after : List Binding → Values → Values
values_after bs v x = valued v (bound_to bs x)

-- the first may be put for the second: of one sort it has the smaller number, and one of fresh or pub may be put for one of msg
abbrev pub Precedes : Variable → Variable → Type 0
Precedes y x = ((y.sort ≡ x.sort) × (y.number < x.number)) ⊎ ((x.sort ≡ Msg) × (y.sort ≡ Msg → ⊥))

-- A unifier of which every unifier is an instance: put after it, each one is what it is by itself. Each solution too is what it is after
-- the bindings, and all values of the variables' sorts are a solution after them. It is idempotent, and a variable is replaced by
-- another one only where that one precedes it.
pub record IsMostGeneral (pairs : List Pair) (bs : List Binding) : Type 0 where
  pub unifies : IsUnifier pairs (bound_to bs)
  pub general : (s : Substitution) → IsUnifier pairs s → (x : Variable) → s x ≡ valued s (bound_to bs x)
  pub fixes : (v : Values) → AreSolution pairs v → Fixes v bs
  pub gives : (v : Values) → RespectsSorts v → AreSolution pairs (values_after bs v)
  pub idempotent : (x : Variable) → valued (bound_to bs) (bound_to bs x) ≡ bound_to bs x
  pub oriented : (x y : Variable) → bound_to bs x ≡ var y → (y ≡ x) ⊎ Precedes y x

-- no values of the variables' sorts make the pairs the same
abbrev pub HaveNoSolution : List Pair → Type 0
HaveNoSolution pairs = (v : Values) → AreSolution pairs v → ⊥

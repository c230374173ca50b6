-- What holds of the unifier.
use Rattle.std.specs.Prelude.{◌≡◌, ◌↔◌, List, Some, None}
use Rattle.sp_spec.specs.Term.{Variable, Values}
use Rattle.sp_spec.specs.Substitution.{Binding, bound_to}
use Rattle.sp_spec.specs.Unifier.{Pair, mgu}
use Rattle.sp_law_unify.specs.MostGeneral.{AreSolution, IsMostGeneral, HaveNoSolution}

-- The unifier is most general, and there is none exactly where the pairs have no solution: where there is one, they have one.
pub record UnifierIsMostGeneral : Type 0 where
  pub some : (pairs : List Pair) (bs : List Binding) → mgu pairs ≡ Some bs → IsMostGeneral pairs bs
  pub none : (pairs : List Pair) → (mgu pairs ≡ None) ↔ HaveNoSolution pairs
  pub solved : (pairs : List Pair) (bs : List Binding) → mgu pairs ≡ Some bs → (v : Values) × AreSolution pairs v

-- Pairs have at most one most general unifier: two of them bind each variable to one term.
pub record MostGeneralIsOne : Type 0 where
  pub one : (pairs : List Pair) (bs cs : List Binding) → IsMostGeneral pairs bs → IsMostGeneral pairs cs → (x : Variable) → bound_to bs x ≡ bound_to cs x

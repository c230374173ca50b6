-- What the adversary does, by the only argument of the action.
use Rattle.std.proofs.Common.{◌≡◌, ℕ, List, refl}
use Rattle.sp_spec.specs.Term.{Variable, Terms, none, more}
use Rattle.sp_spec_system.specs.System.{System}
use Rattle.sp_spec_system.specs.Picked.{only_term}
use Rattle.sp_spec_formula.specs.Action.{by_adversary}
use Rattle.sp_moves_formula.specs.Sought.{by_only}

pub by_argument : (s : System) (i : ℕ) (symbol : List ℕ) (ts : Terms Variable) → by_adversary s i symbol ts ≡ by_only s i symbol (only_term ts)
by_argument s i symbol none = refl
by_argument s i symbol (more t none) = refl
by_argument s i symbol (more t (more u ts)) = refl

-- What holds of the lines of a replay.
use Rattle.std.specs.Prelude.{◌≡◌, ℕ, List}
use Rattle.sp_spec.specs.Signature.{Symbol}
use Rattle.sp_spec.specs.Execution.{Step}
use Rattle.sp_spec_printed.specs.StepLines.{HaveNames, AreSteps, IsFirstUnread}

-- Where the symbols have names as they stand in texts, lines are those of one list of steps, or one line is the first that is no step's.
pub record StepsAreOne : Type 0 where
  pub one : (symbols : List Symbol) → HaveNames symbols → (all : List (List ℕ)) (xs ys : List Step) → AreSteps symbols all xs → AreSteps symbols all ys → xs ≡ ys
  pub apart : (symbols : List Symbol) → HaveNames symbols → (all : List (List ℕ)) (xs : List Step) (n : ℕ) → AreSteps symbols all xs → IsFirstUnread symbols all n → ⊥
  pub one_unread : (symbols : List Symbol) → HaveNames symbols → (all : List (List ℕ)) (m n : ℕ) → IsFirstUnread symbols all m → IsFirstUnread symbols all n → m ≡ n

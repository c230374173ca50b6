-- What fails of a move's condition, and that a move has cases exactly where nothing fails.
use Rattle.std.specs.Prelude.{◌≡◌, List, Option, is_none, is_some}
use Rattle.sp_spec_system.specs.Move.{Case}

-- What fails of a move's condition: of these the first that does.
pub data Clause : Type 0 where
  -- the move is none of those that are asked about
  another_crate : Clause
  -- a position, a time or a premise that the move names isn't in the system
  absent : Clause
  -- what stands there isn't of the kind that the move asks for
  other_kind : Clause
  -- the rest of the condition
  condition : Clause

-- no clause fails exactly where there are cases
pub record HasCases (why : Option Clause) (cases : Option (List Case)) : Type 0 where
  pub exact : is_none why ≡ is_some cases

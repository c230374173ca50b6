-- What the written rules owe.
use Rattle.std.specs.Prelude.{◌≡◌, false, List, Some, None, ◌∷◌, ◌++◌, true, []}
use Rattle.sp_spec_system.specs.System.{System}
use Rattle.sp_spec_system.specs.Rules.{Rules}
use Rattle.sp_spec_proof.specs.Rows.{Row, rows, by_row, by_rows, is_contradictory}
use Rattle.sp_spec.specs.Theory.{Theory}
use Rattle.sp_spec_system.specs.Move.{Context, Move, unproved, solved, induction, finish, Case, systems_in}
use Rattle.sp_law_system.specs.Proofs.{IsWellMade, IsKept}
use Rattle.sp_law_cover.specs.Admitted.{HasNoSolution, CoversBelow}
use Rattle.sp_law_cover.specs.Contexts.{IsContextOf}
use Rattle.sp_spec_system.specs.Covering.{Covers}
use Rattle.sp_spec.specs.Lists.{Every}
use Rattle.sp_spec_proof.specs.Cases.{cases}
use Rattle.sp_law_system.specs.Rules.{SuitsProofs}

-- One turn of simplification: no contradiction is seen, the rows that stand before this one give nothing, and this one gives the system.
pub record IsTurn (rules : Rules) (s : System) (row : Row) (t : System) : Type 0 where
  pub quiet : is_contradictory rules s ≡ false
  pub earlier : List Row
  pub later : List Row
  pub place : rows ≡ earlier ++ row ∷ later
  pub nothing : by_rows rules earlier s ≡ None
  pub gives : by_row rules row s ≡ Some t

-- a contradiction stands only where there is no solution
pub record ContradictionsHold (theory : Theory) : Type 0 where
  pub no_solution : (context : Context) → IsContextOf theory context → (s : System) → is_contradictory context.rules s ≡ true → IsWellMade context s → HasNoSolution theory s

-- an elementary move keeps what systems fulfil, and covers: in its turn, not each by itself
pub record RowsCover (theory : Theory) : Type 0 where
  pub kept : (context : Context) → IsContextOf theory context → (row : Row) (s t : System) → IsTurn context.rules s row t → IsWellMade context s → IsKept context s t
  pub covers : (context : Context) → IsContextOf theory context → (row : Row) (s t : System) → IsTurn context.rules s row t → IsWellMade context s → Covers theory s (t ∷ [])

-- So does each move with all its cases, but for an open leaf and for one with which the search ends at a log. Two moves cover only below, where only admitted logs
-- are spoken of: induction, since it goes over to what a log was before; and the one with which the search ends where it finds nothing, since there no log
-- solves the system over which all that is asked for is true.
pub record MovesCover (theory : Theory) : Type 0 where
  pub kept : (context : Context) → IsContextOf theory context → (s : System) (move : Move) (cs : List Case)
      → cases context s move ≡ Some cs → IsWellMade context s → Every (IsKept context s) (systems_in cs)
  pub covers : (context : Context) → IsContextOf theory context → (s : System) (move : Move) (cs : List Case)
      → cases context s move ≡ Some cs → (move ≡ unproved → ⊥) → (move ≡ solved → ⊥) → (move ≡ induction → ⊥) → (move ≡ finish → ⊥) → IsWellMade context s → Covers theory s (systems_in cs)
  pub covers_below : (context : Context) → IsContextOf theory context → (s : System) (move : Move) (cs : List Case)
      → cases context s move ≡ Some cs → (move ≡ unproved → ⊥) → (move ≡ solved → ⊥) → IsWellMade context s → CoversBelow theory context s (systems_in cs)

-- No solution is lost: not by an elementary move, not by a contradiction, and not by a move with its cases simplified.
pub record NothingIsLost : Type 0 where
  pub rows : (theory : Theory) → SuitsProofs theory → RowsCover theory
  pub contradictions : (theory : Theory) → SuitsProofs theory → ContradictionsHold theory
  pub moves : (theory : Theory) → SuitsProofs theory → MovesCover theory

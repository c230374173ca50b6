-- What is said of the last time, in memory, and what is done with a formula that says it.
use Rattle.std.specs.Prelude.{ℕ, List, [], ◌∷◌, Option, Some}
use Rattle.sp_spec.specs.Guarded.{Guarded, free_time, before, holds}
use Rattle.sp_spec_system.specs.System.{System}
use Rattle.sp_spec_formula.specs.Last as rows
use Rattle.sp_spec_formula.specs.Last.{is_last, before_last}
use Rattle.sp_system.specs.SpendView.{spending_at}
use Rattle.sp_rows_formula.specs.declared.last.Ending.{Ending}
use Rattle.sp_rows_formula.specs.declared.last.Ending.TheVariants.{IsLast, BeforeLast}

abbrev pub ending : Ending → rows.Ending
ending (IsLast i) = is_last i
ending (BeforeLast i j) = before_last i j

-- what stands in its place
abbrev pub instead : rows.Ending → List Guarded
instead (is_last i) = []
instead (before_last i j) = holds (before (free_time i) (free_time j)) ∷ []

-- what is done once it is spent
abbrev pub ended : rows.Ending → System → Option System
ended (is_last i) s = rows.made_last s.last i s
ended (before_last i j) s = Some s

-- the formula at this position says it
abbrev pub ended_at : System → ℕ → rows.Ending → Option System
ended_at s k e = ended e (spending_at s k (instead e))

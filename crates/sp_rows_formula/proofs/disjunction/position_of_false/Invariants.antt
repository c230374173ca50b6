use Rattle.sp_rows_formula.specs.PartsView.{false_of}
use Rattle.sp_rows_formula.proofs.Searches.{IsLeft}
use Rattle.sp_rows_formula.proofs.disjunction.position_of_false.Given as goal

abbrev pub invariant-loop-position : goal.invariant-loop-position
invariant-loop-position l = IsLeft false_of l.parts.items l.position

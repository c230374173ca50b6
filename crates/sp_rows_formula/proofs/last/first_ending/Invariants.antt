use Rattle.sp_spec_formula.specs.Last as rows
use Rattle.sp_rows_formula.proofs.Searches.{IsLeft}
use Rattle.sp_rows_formula.proofs.last.first_ending.Given as goal

abbrev pub invariant-loop-position : goal.invariant-loop-position
invariant-loop-position l = IsLeft (rows.ending_of l.system.last) l.system.formulas.items l.position

use Rattle.sp_spec_formula.specs.Unequal as rows
use Rattle.sp_rows_formula.proofs.Searches.{IsLeft}
use Rattle.sp_rows_formula.proofs.unequal.position_of_inequality.Given as goal

abbrev pub invariant-loop-position : goal.invariant-loop-position
invariant-loop-position l = IsLeft rows.inequality_of l.system.formulas.items l.position

use Rattle.sp_spec_formula.specs.Split as rows
use Rattle.sp_rows_formula.proofs.Searches.{IsLeft}
use Rattle.sp_rows_formula.proofs.split.first_conjunction.Given as goal

abbrev pub invariant-loop-position : goal.invariant-loop-position
invariant-loop-position l = IsLeft rows.split_of l.system.formulas.items l.position

use Rattle.sp_spec_formula.specs.Open as rows
use Rattle.sp_rows_formula.proofs.Searches.{IsLeft}
use Rattle.sp_rows_formula.proofs.open_existential.first_existential.Given as goal

abbrev pub invariant-loop-position : goal.invariant-loop-position
invariant-loop-position l = IsLeft rows.existential_of l.system.formulas.items l.position

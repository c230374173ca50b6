use Rattle.sp_spec_formula.specs.Equate as rows
use Rattle.sp_rows_formula.proofs.Searches.{IsLeft}
use Rattle.sp_rows_formula.proofs.equate.first_equation.Given as goal

abbrev pub invariant-loop-position : goal.invariant-loop-position
invariant-loop-position l = IsLeft rows.equation_of l.system.formulas.items l.position

-- What equations in memory say.
use Rattle.sp_unify.specs.View.{pair_view}
use Rattle.sp_spec_formula.specs.Equate as rows
use Rattle.sp_rows_formula.specs.declared.equate.Equation.{Equation}
use Rattle.sp_rows_formula.specs.declared.equate.Equation.TheVariants.{Terms, Times}

abbrev pub equation : Equation → rows.Equation
equation (Terms p) = rows.equal_terms (pair_view p)
equation (Times i j) = rows.equal_times i j

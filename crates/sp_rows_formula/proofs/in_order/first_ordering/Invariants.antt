use Rattle.sp_spec_formula.specs.InOrder as rows
use Rattle.sp_rows_formula.proofs.Searches.{IsLeft}
use Rattle.sp_rows_formula.proofs.in_order.first_ordering.Given as goal

abbrev pub invariant-loop-position : goal.invariant-loop-position
invariant-loop-position l = IsLeft (rows.order_of l.system.order) l.system.formulas.items l.position

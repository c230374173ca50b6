use Rattle.sp_system.specs.SystemView.{system_of}
use Rattle.sp_spec_formula.specs.Disjunction as rows
use Rattle.sp_rows_formula.proofs.Searches.{IsLeft}
use Rattle.sp_rows_formula.proofs.disjunction.first_done.Given as goal

abbrev pub invariant-loop-position : goal.invariant-loop-position
invariant-loop-position l = IsLeft (rows.instead_of (system_of l.system)) l.system.formulas.items l.position

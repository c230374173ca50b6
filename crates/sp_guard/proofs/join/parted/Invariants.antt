use Rattle.std.proofs.Common.{◌≡◌, map}
use Rattle.sp_formula.specs.FormulaView.{atom_of, formula_of}
use Rattle.sp_law_guard.specs.GuardedForm.{guard_in, rest_in}
use Rattle.sp_guard.proofs.join.parted.Given as goal

abbrev pub invariant-loop-formula : goal.invariant-loop-formula
invariant-loop-formula l = record {
  guarding : map atom_of l.guard.items ≡ guard_in (map formula_of l.yielded);
  others : map formula_of l.rest.items ≡ rest_in (map formula_of l.yielded);
}

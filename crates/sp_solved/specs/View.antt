-- What a proof begins from, as it stands in memory.
use Rattle.std.specs.Prelude.{map, option_map}
use Rattle.sp_formula.specs.FormulaView.{formula_of}
use Rattle.sp_spec_system.specs.Move as spec
use Rattle.sp_solved.specs.declared.root.InductionCases.{InductionCases}
use Rattle.sp_solved.specs.declared.root.Root.{Root}

-- the formulas with which the cases of an induction begin
abbrev pub cases_of : InductionCases → spec.InductionCases
cases_of i = record { empty_trace = map formula_of i.empty_trace.now.items; non_empty_trace = map formula_of i.non_empty_trace.now.items }

abbrev pub root_of : Root → spec.Root
root_of r = record {
  restrictions = map formula_of r.restrictions.now.items;
  taken = map formula_of r.taken.now.items;
  sought = formula_of r.sought.now;
  begins_with_induction = r.begins_with_induction;
  consecutive = r.consecutive;
  cases = option_map cases_of r.cases;
}

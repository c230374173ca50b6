use Rattle.std.proofs.Common.{◌≡◌, ◌++◌, map, drop}
use Rattle.sp_spec.specs.Term.{in_terms}
use Rattle.sp_read_parts.specs.Views as view
use Rattle.sp_declared.proofs.names.+variables.Given as goal

abbrev pub invariant-push_all_variables-loop-term : goal.invariant-push_all_variables-loop-term
invariant-push_all_variables-loop-term l =
    map view.variable l.found.items ++ in_terms (view.terms (drop l.term-index l.terms.items)) ≡ map view.variable l.fn.found.items ++ in_terms (view.terms l.terms.items)

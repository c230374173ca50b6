use Rattle.std.proofs.Common.{◌≡◌, map, drop, ◌++◌}
use Rattle.sp_spec.specs.Written.{in_terms}
use Rattle.sp_read_parts.specs.Views as view
use Rattle.sp_finding.proofs.variables.+gather.Given as goal

abbrev pub invariant-gather-loop-term : goal.invariant-gather-loop-term
invariant-gather-loop-term l =
    map view.variable l.found.items ++ in_terms (view.terms (drop l.term-index l.term-items))
    ≡ map view.variable l.fn.found.items ++ in_terms (view.terms l.terms.items)

use Rattle.std.proofs.Common.{◌≡◌, map, drop, ◌++◌}
use Rattle.sp_spec.specs.Written.{in_facts}
use Rattle.sp_read_parts.specs.Views as view
use Rattle.sp_finding.proofs.variables.gather_facts.Given as goal

abbrev pub invariant-loop-fact : goal.invariant-loop-fact
invariant-loop-fact l =
    map view.variable l.found.items ++ in_facts (view.facts_of (drop l.fact-index l.fact-items))
    ≡ map view.variable l.fn.found.items ++ in_facts (view.facts_of l.facts.items)

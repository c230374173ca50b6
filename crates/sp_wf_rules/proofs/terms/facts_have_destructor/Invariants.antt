use Rattle.std.proofs.Common.{◌≡◌, drop, map}
use Rattle.sp_fact.specs.GroundView.{equation_of}
use Rattle.sp_read_parts.specs.Views as parts
use Rattle.sp_wf_rules.specs.RuleFindings as spec
use Rattle.sp_wf_rules.proofs.terms.facts_have_destructor.Given as goal

abbrev pub invariant-loop-fact : goal.invariant-loop-fact
invariant-loop-fact l =
    spec.facts_have_destructor (map equation_of l.equations.items) (parts.facts_of l.facts.items)
    ≡ spec.facts_have_destructor (map equation_of l.equations.items) (parts.facts_of (drop l.fact-index l.fact-items))

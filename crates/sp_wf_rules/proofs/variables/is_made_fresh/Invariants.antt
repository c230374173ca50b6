use Rattle.std.proofs.Common.{◌≡◌, drop}
use Rattle.sp_read_parts.specs.Views.{facts_of}
use Rattle.sp_wf_rules.specs.RuleFindings as spec
use Rattle.sp_wf_rules.proofs.variables.is_made_fresh.Given as goal

abbrev pub invariant-loop-fact : goal.invariant-loop-fact
invariant-loop-fact l = spec.is_made_fresh l.name (facts_of l.premises.items) ≡ spec.is_made_fresh l.name (facts_of (drop l.fact-index l.premises.items))

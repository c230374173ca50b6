use Rattle.std.proofs.Common.{◌≡◌, drop}
use Rattle.sp_read_parts.specs.Views.{facts_of}
use Rattle.sp_wf_rules.specs.Told as told
use Rattle.sp_wf_rules.proofs.variables.stands_among.Given as goal

abbrev pub invariant-loop-fact : goal.invariant-loop-fact
invariant-loop-fact l = told.stands_among l.name (facts_of l.facts.items) ≡ told.stands_among l.name (facts_of (drop l.fact-index l.facts.items))

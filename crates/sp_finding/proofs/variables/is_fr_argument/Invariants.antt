use Rattle.std.proofs.Common.{◌≡◌, drop}
use Rattle.sp_spec.specs.Written as written
use Rattle.sp_read_parts.specs.Views.{facts_of}
use Rattle.sp_finding.proofs.variables.is_fr_argument.Given as goal

abbrev pub invariant-loop-fact : goal.invariant-loop-fact
invariant-loop-fact l = written.is_fr_argument l.name (facts_of l.premises.items) ≡ written.is_fr_argument l.name (facts_of (drop l.fact-index l.fact-items))

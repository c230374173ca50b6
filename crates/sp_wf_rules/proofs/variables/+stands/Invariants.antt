use Rattle.std.proofs.Common.{◌≡◌, drop}
use Rattle.sp_spec.specs.Written.{in_terms}
use Rattle.sp_spec.specs.Findings as findings
use Rattle.sp_read_parts.specs.Views as view
use Rattle.sp_wf_rules.proofs.variables.+stands.Given as goal

abbrev pub invariant-stands_in_one-loop-term : goal.invariant-stands_in_one-loop-term
invariant-stands_in_one-loop-term l =
    findings.is_named l.name (in_terms (view.terms l.terms.items)) ≡ findings.is_named l.name (in_terms (view.terms (drop l.term-index l.terms.items)))

use Rattle.std.proofs.Common.{◌≡◌, drop}
use Rattle.sp_read_parts.specs.Views as parts
use Rattle.sp_wf_rules.specs.RuleFindings as spec
use Rattle.sp_finding.specs.Finding.{lines_after}
use Rattle.sp_finding.specs.KnownView.{symbols_of}
use Rattle.sp_lines.specs.TextsView.{texts_of}
use Rattle.sp_wf_rules.proofs.terms.tell_unknown_in_facts.Given as goal

abbrev pub invariant-loop-fact : goal.invariant-loop-fact
invariant-loop-fact l =
    lines_after (texts_of l.lines) (spec.unknown_in_facts (symbols_of l.symbols) (parts.facts_of (drop l.fact-index l.facts.items)))
    ≡ lines_after (texts_of l.fn.lines) (spec.unknown_in_facts (symbols_of l.symbols) (parts.facts_of l.facts.items))

use Rattle.std.proofs.Common.{◌≡◌, drop}
use Rattle.sp_read_parts.specs.Views.{facts_of}
use Rattle.sp_wf_rules.specs.RuleFindings.{wrong_conclusions}
use Rattle.sp_finding.specs.Finding.{lines_after}
use Rattle.sp_lines.specs.TextsView.{texts_of}
use Rattle.sp_wf_rules.proofs.facts.tell_conclusions.Given as goal

abbrev pub invariant-loop-fact : goal.invariant-loop-fact
invariant-loop-fact l = lines_after (texts_of l.lines) (wrong_conclusions l.rule (facts_of (drop l.fact-index l.conclusions.items))) ≡ lines_after (texts_of l.fn.lines) (wrong_conclusions l.rule (facts_of l.conclusions.items))

use Rattle.std.proofs.Common.{◌≡◌, drop}
use Rattle.sp_read_parts.specs.Views.{facts_of}
use Rattle.sp_spec.specs.Constants.{once_after, in_facts}
use Rattle.sp_lines.specs.TextsView.{texts_of}
use Rattle.sp_warn.proofs.constants.see_facts.Given as goal

abbrev pub invariant-loop-fact : goal.invariant-loop-fact
invariant-loop-fact l = once_after (texts_of l.seen) (in_facts (facts_of (drop l.fact-index l.facts.items))) ≡ once_after (texts_of l.fn.seen) (in_facts (facts_of l.facts.items))

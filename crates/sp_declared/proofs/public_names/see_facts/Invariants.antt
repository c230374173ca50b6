use Rattle.std.proofs.Common.{◌≡◌, map, drop}
use Rattle.sp_term.specs.View.{name_of}
use Rattle.sp_read_parts.specs.Views.{facts_of}
use Rattle.sp_spec.specs.Constants.{once_after, in_facts}
use Rattle.sp_declared.proofs.public_names.see_facts.Given as goal

abbrev pub invariant-loop-fact : goal.invariant-loop-fact
invariant-loop-fact l =
    once_after (map name_of l.seen.items) (in_facts (facts_of (drop l.fact-index l.facts.items)))
    ≡ once_after (map name_of l.fn.seen.items) (in_facts (facts_of l.facts.items))

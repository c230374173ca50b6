use Rattle.std.proofs.Common.{◌≡◌, map, drop}
use Rattle.sp_term.specs.View.{variable_of}
use Rattle.sp_fact.specs.View.{fact_of}
use Rattle.sp_spec_solved.specs.Naming.{once_after, in_facts}
use Rattle.sp_solved.proofs.naming.see_facts.Given as goal

abbrev pub invariant-loop-fact : goal.invariant-loop-fact
invariant-loop-fact l =
    once_after (map variable_of l.seen.items) (in_facts (map fact_of (drop l.fact-index l.facts.items)))
    ≡ once_after (map variable_of l.fn.seen.items) (in_facts (map fact_of l.facts.items))

use Rattle.std.proofs.Common.{◌≡◌, length, map}
use Rattle.std.specs.Slice.Iter.{iter_rest}
use Rattle.sp_fact.specs.View.{fact_of}
use Rattle.sp_fact.specs.GroundView.{ground_fact}
use Rattle.sp_log.specs.Checking.{alike_facts}
use Rattle.sp_log.proofs.instance.alike_facts.Given as goal

abbrev pub invariant-loop-pattern : goal.invariant-loop-pattern
invariant-loop-pattern l =
    (alike_facts (map fact_of l.patterns.items) (map ground_fact l.facts.items)
    ≡ alike_facts (map fact_of (iter_rest l.pattern-iterator.a)) (map ground_fact (iter_rest l.pattern-iterator.b)))
    × (length (iter_rest l.pattern-iterator.a) ≡ length (iter_rest l.pattern-iterator.b))

use Rattle.std.proofs.Common.{◌≡◌, length, map}
use Rattle.std.specs.Slice.Iter.{iter_rest}
use Rattle.sp_fact.specs.View.{fact_of}
use Rattle.sp_fact.specs.GroundView.{ground_fact}
use Rattle.sp_law_log_steps.specs.Found.{matched_facts}
use Rattle.sp_norm.specs.Bounds.{bounds}
use Rattle.sp_log.proofs.instance.extend_facts.Given as goal

abbrev pub invariant-loop-pattern : goal.invariant-loop-pattern
invariant-loop-pattern l =
    (matched_facts (map fact_of l.patterns.items) (map ground_fact l.facts.items) (bounds l.fn.found)
    ≡ matched_facts (map fact_of (iter_rest l.pattern-iterator.a)) (map ground_fact (iter_rest l.pattern-iterator.b)) (bounds l.found))
    × (length (iter_rest l.pattern-iterator.a) ≡ length (iter_rest l.pattern-iterator.b))

use Rattle.std.proofs.Common.{◌≡◌, drop, map}
use Rattle.sp_fact.specs.GroundView.{ground_of, grounds_of}
use Rattle.sp_learn.specs.Learning as spec
use Rattle.sp_learn.proofs.learning.are_among.Given as goal

abbrev pub invariant-loop-term : goal.invariant-loop-term
invariant-loop-term l =
    spec.are_among (map ground_of l.messages.items) (grounds_of l.terms.items)
    ≡ spec.are_among (map ground_of l.messages.items) (grounds_of (drop l.term-index l.term-items))

use Rattle.std.proofs.Common.{◌≡◌, length, map, Some}
use Rattle.sp_fact.specs.GroundView.{ground_of}
use Rattle.sp_read_steps.specs.Reading.{chain}
use Rattle.sp_read_steps.proofs.Pairs.{onto}
use Rattle.sp_read_steps.proofs.terms.chain.Given as goal

abbrev pub invariant-loop-left : goal.invariant-loop-left
invariant-loop-left l = Some (onto (map ground_of l.terms.items) (ground_of l.made)) ≡ chain (map ground_of l.fn.terms.items)

abbrev pub decreases-loop-left : goal.decreases-loop-left
decreases-loop-left l = length l.terms.items

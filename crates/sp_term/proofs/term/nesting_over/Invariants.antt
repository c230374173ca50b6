use Rattle.std.proofs.Common.{◌≡◌, max, map, drop}
use Rattle.sp_term.specs.View.{nesting_of, deepest}
use Rattle.sp_term.proofs.term.nesting_over.Given as goal

abbrev pub invariant-loop-term : goal.invariant-loop-term
invariant-loop-term g l = max l.most (deepest (map nesting_of (drop l.term-index l.term-items))) ≡ deepest (map nesting_of l.terms.items)

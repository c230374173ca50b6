use Rattle.std.proofs.Common.{◌≡◌, ◌+◌, ◌*◌, zero, drop, length, map}
use Rattle.sp_term.specs.View.{view, view_all}
use Rattle.sp_fact.specs.GroundView.{ground_of}
use Rattle.sp_norm.specs.Bounds.{bounds}
use Rattle.sp_destruct.specs.Links.{first_from}
use Rattle.sp_destruct.proofs.Searching.{goes_on}
use Rattle.sp_destruct.proofs.search.+sides.Given as goal

-- the number of side messages that are left, and one step between two of them
abbrev pub decreases-sides_from : goal.decreases-sides_from
decreases-sides_from l = 2 * length l.sides.now

abbrev pub decreases-sides_after : goal.decreases-sides_after
decreases-sides_after l = 2 * length l.others.now + 1

abbrev pub invariant-sides_from-loop-place : goal.invariant-sides_from-loop-place
invariant-sides_from-loop-place l =
    let search = goes_on (map ground_of l.learnt.items) (view l.side) (view_all l.others) (bounds l.found) in
    first_from search zero (map ground_of l.learnt.items) ≡ first_from search l.place (map ground_of (drop l.place l.learnt.items))

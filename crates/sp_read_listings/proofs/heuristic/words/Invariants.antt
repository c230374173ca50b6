use Rattle.std.proofs.Common.{map, length, ◌≤◌, ◌-◌}
use Rattle.sp_read_listings.specs.Heuristics.{AreWords}
use Rattle.sp_read_listings.specs.Views.{seen_from}
use Rattle.sp_read_listings.proofs.Listed.{Onward}
use Rattle.sp_read_listings.proofs.heuristic.words.Given as goal

abbrev pub invariant-loop-next : goal.invariant-loop-next
invariant-loop-next l = record { reads : Onward AreWords (seen_from l.tokens l.at) (map (λ w. w.now) l.found.items) (seen_from l.tokens l.rest); further : l.at ≤ l.rest }

abbrev pub decreases-loop-next : goal.decreases-loop-next
decreases-loop-next l = length l.tokens - l.rest

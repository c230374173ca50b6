use Rattle.std.proofs.Common.{map, length, ◌≤◌, ◌-◌}
use Rattle.sp_read_listings.specs.Listings.{IsFunction, AreAll}
use Rattle.sp_read_listings.specs.Views as view
use Rattle.sp_read_listings.specs.Views.{seen_from}
use Rattle.sp_read_listings.proofs.Listed.{Onward}
use Rattle.sp_read_listings.proofs.listings.functions.Given as goal

abbrev pub invariant-loop-found : goal.invariant-loop-found
invariant-loop-found l = record { reads : Onward (AreAll IsFunction) (seen_from l.tokens l.at) (map view.symbol_of l.found.items) (seen_from l.tokens l.rest); further : l.at ≤ l.rest }

abbrev pub decreases-loop-found : goal.decreases-loop-found
decreases-loop-found l = length l.tokens - l.rest

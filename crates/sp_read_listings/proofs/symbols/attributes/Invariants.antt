use Rattle.std.proofs.Common.{length, ◌≤◌, ◌-◌}
use Rattle.sp_read_listings.specs.Views.{seen_from}
use Rattle.sp_read_listings.proofs.SymbolParts.{Marked}
use Rattle.sp_read_listings.proofs.symbols.attributes.Given as goal

abbrev pub invariant-loop-next : goal.invariant-loop-next
invariant-loop-next l = record { reads : Marked (seen_from l.tokens l.at) l.private (seen_from l.tokens l.rest); further : l.at ≤ l.rest }

abbrev pub decreases-loop-next : goal.decreases-loop-next
decreases-loop-next l = length l.tokens - l.rest

use Rattle.std.proofs.Common.{length, ◌≤◌, ◌-◌}
use Rattle.std.specs.Prelude.{string_bytes}
use Rattle.sp_read_listings.specs.Listings.{IsBuiltin}
use Rattle.sp_read_listings.specs.Views.{seen_from}
use Rattle.sp_read_listings.proofs.Listed.{Onward}
use Rattle.sp_read_listings.proofs.listings.builtin.Given as goal

abbrev pub invariant-loop-part : goal.invariant-loop-part
invariant-loop-part l = record { reads : Onward IsBuiltin (seen_from l.tokens l.at) (string_bytes l.text) (seen_from l.tokens l.rest); further : l.at ≤ l.rest }

abbrev pub decreases-loop-part : goal.decreases-loop-part
decreases-loop-part l = length l.tokens - l.rest

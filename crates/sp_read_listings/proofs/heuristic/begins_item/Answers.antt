use Rattle.sp_read_listings.proofs.Beginnings.{begins_end}
use Rattle.sp_read_listings.proofs.heuristic.begins_item.Goals as goal

pub returns-in-Some : goal.returns-in-Some
returns-in-Some c = begins_end c.in-Some.ensures.value

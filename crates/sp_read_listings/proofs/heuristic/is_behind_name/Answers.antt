use Rattle.sp_read_listings.proofs.Beginnings.{behind_name_list}
use Rattle.sp_read_listings.proofs.heuristic.is_behind_name.Goals as goal

pub returns-in-Some : goal.returns-in-Some
returns-in-Some c = behind_name_list c.in-Some.ensures.value

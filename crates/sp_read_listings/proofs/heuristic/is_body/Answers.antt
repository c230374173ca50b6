use Rattle.sp_read_listings.proofs.Beginnings.{body_list, body_quote, body_let}
use Rattle.sp_read_listings.proofs.heuristic.is_body.Goals as goal

pub returns-in-Some : goal.returns-in-Some
returns-in-Some c = body_list c.in-Some.ensures.value

pub returns-in-Some-after : goal.returns-in-Some-after
returns-in-Some-after c = body_quote c.in-Some-after.ensures.value

pub returns-in-Some-behind : goal.returns-in-Some-behind
returns-in-Some-behind c = body_let c.in-Some-behind.ensures.value

use Rattle.sp_read_listings.specs.Made.{made_of}
use Rattle.sp_read_listings.proofs.Making.{under_at}
use Rattle.sp_read_listings.proofs.listings.equations_item.Goals as goal

pub returns-clause-value : goal.returns-clause-value
returns-clause-value c = let one = rw c.in-Some-2.is at c.in_ok-found.ensures in made_of (under_at c.in-Some.ensures.value one.value)

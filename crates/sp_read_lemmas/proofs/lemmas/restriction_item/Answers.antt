use Rattle.sp_read_listings.specs.Made.{made_of}
use Rattle.sp_read_lemmas.proofs.lemmas.restriction_item.Goals as goal

pub returns-clause-value : goal.returns-clause-value
returns-clause-value c = let one = rw c.in-Some.is at c.in_ok-found.ensures in made_of one.value

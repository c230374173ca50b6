use Rattle.sp_read_listings.specs.Made.{made_of}
use Rattle.sp_read_theory.proofs.declarations.block_item.Goals as goal

pub returns-clause-value : goal.returns-clause-value
returns-clause-value c = made_of c.in_ok-found.ensures.value

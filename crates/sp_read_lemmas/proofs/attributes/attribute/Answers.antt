use Rattle.sp_read_atoms.specs.Atoms.{first, second}
use Rattle.sp_read_listings.specs.Made.{made_of}
use Rattle.sp_read_listings.proofs.Making.{made_none}
use Rattle.sp_read_lemmas.proofs.attributes.attribute.Goals as goal

pub returns-in-Some-clause-value : goal.returns-in-Some-clause-value
returns-in-Some-clause-value c = first (made_of c.in-Some.ensures.value)

pub returns-in-Some-valued-clause-value : goal.returns-in-Some-valued-clause-value
returns-in-Some-valued-clause-value c = second (made_none c.in_default.ensures.value) (first (made_of c.in-Some-valued.ensures.value))

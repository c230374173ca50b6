use Rattle.sp_read_theory.proofs.Whole.{places_ordered}
use Rattle.sp_read_theory.proofs.read.read_theory.Goals as goal

pub returns-in-Some-clause-ordered : goal.returns-in-Some-clause-ordered
returns-in-Some-clause-ordered c =
    let all = rw c.in-Some.is at c.in_ok-theory-in-Ok.ensures in
    places_ordered c.in-Ok.ensures (rw c.deref.ensures.value at all.value) (rw c.deref.ensures.value at all.spans) (rw c.deref.ensures.value at all.last)

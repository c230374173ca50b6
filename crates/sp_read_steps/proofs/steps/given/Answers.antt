use Rattle.sp_read_steps.proofs.Exits.{given_read}
use Rattle.sp_read_steps.proofs.steps.given.Goals as goal

pub returns : goal.returns
returns c =
    let t = rw c.in-Some-2.is at c.in_ok-value.ensures in
    rw c.in_ok-variable.ensures (given_read c.in-Some.ensures.value c.in-Some-after.ensures.value t)

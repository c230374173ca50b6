use Rattle.sp_read_steps.proofs.Exits.{not_whole}
use Rattle.sp_read_steps.proofs.steps.whole_term.Goals as goal

pub returns-else-is_nothing : goal.returns-else-is_nothing
returns-else-is_nothing c =
    let t = rw c.in-Some.is at c.in_ok-found.ensures in
    let n = rw c.if-is_nothing.false at c.is_nothing.ensures in
    not_whole t n

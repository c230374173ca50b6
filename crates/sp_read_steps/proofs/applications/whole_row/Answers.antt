use Rattle.sp_read_steps.proofs.Exits.{row_not_whole}
use Rattle.sp_read_steps.proofs.applications.whole_row.Goals as goal

pub returns-else-is_nothing : goal.returns-else-is_nothing
returns-else-is_nothing c =
    let row = rw c.in-Some.is at c.in_ok-found.ensures in
    let n = rw c.if-is_nothing.false at c.is_nothing.ensures in
    row_not_whole c.requires row n

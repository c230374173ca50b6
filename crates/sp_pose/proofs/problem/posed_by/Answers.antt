use Rattle.sp_pose.proofs.Posed.{reported_on, some_lines}
use Rattle.sp_pose.proofs.problem.posed_by.Goals as goal

pub returns : goal.returns
returns c =
    let e = c.in-Ok.examined in
    reported_on e (rw c.in-Ok.is at c.in_ok-place.ensures) c.in_ok-lines-in-Ok.lines.items
    (some_lines e.fatal.len e.fatal.items c.if-is_empty.ensures e.fatal.ok.0) c.in_ok-lines-in-Ok.ensures

use Rattle.sp_place.proofs.Places.{refused_wrong, refused_fault}
use Rattle.sp_place.proofs.refused.refused_at.Goals as goal

pub returns-in-Wrong : goal.returns-in-Wrong
returns-in-Wrong c =
    let wrong = rw (c.in-Wrong.is, c.deref.ensures.value) at c.in_ok-run.ensures in
    refused_wrong _ c.in_ok-scanned.ensures wrong

pub returns-in-Some : goal.returns-in-Some
returns-in-Some c =
    let broken = rw c.in-Some.is at c.in_ok-scanned.ensures in
    let left = rw (c.in-Left.is, c.deref.ensures.value) at c.in_ok-run.ensures in
    refused_fault broken left.begins

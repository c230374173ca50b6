use Rattle.sp_place.proofs.Taking.{same_none, same_stuck, same_takes, same_becomes, same_opens, becomes_lighter, opens_lighter}
use Rattle.sp_place.proofs.stack.advance.Goals as goal

pub returns-in_default : goal.returns-in_default
returns-in_default c =
    let none = rw c.in_default.is at c.pop.ensures in
    same_none c.loop-part.invariant.same none

pub returns-in-Takes : goal.returns-in-Takes
returns-in-Takes c =
    let first = rw c.in-Some.is at c.pop.ensures in
    let move = rw c.in-Takes.is at c.next.ensures in
    same_takes c.loop-part.invariant.same first c.read.ensures move c.in_ok-put-in-Takes.ensures c.stays_open.ensures

pub loop-part-smaller-in-Continue-branch-2 : goal.loop-part-smaller-in-Continue-branch-2
loop-part-smaller-in-Continue-branch-2 c =
    let first = rw c.in-Some.is at c.pop.ensures in
    let move = rw c.in-Becomes.is at c.next.ensures in
    becomes_lighter _ _ first move c.in_ok-put-in-Becomes.ensures

pub loop-part-preserved-in-Continue-branch-2 : goal.loop-part-preserved-in-Continue-branch-2
loop-part-preserved-in-Continue-branch-2 c =
    let first = rw c.in-Some.is at c.pop.ensures in
    let move = rw c.in-Becomes.is at c.next.ensures in
    record { same = same_becomes c.loop-part.invariant.same first c.read.ensures move c.in_ok-put-in-Becomes.ensures }

pub loop-part-smaller : goal.loop-part-smaller
loop-part-smaller c =
    let first = rw c.in-Some.is at c.pop.ensures in
    let move = rw c.in-Opens.is at c.next.ensures in
    opens_lighter _ _ first move c.in_ok-put-in-Opens.ensures

pub loop-part-preserved : goal.loop-part-preserved
loop-part-preserved c =
    let first = rw c.in-Some.is at c.pop.ensures in
    let move = rw c.in-Opens.is at c.next.ensures in
    record { same = same_opens c.loop-part.invariant.same first c.read.ensures move c.in_ok-put-in-Opens.ensures }

pub returns-in-Stuck : goal.returns-in-Stuck
returns-in-Stuck c =
    let first = rw c.in-Some.is at c.pop.ensures in
    let move = rw c.in-Stuck.is at c.next.ensures in
    same_stuck c.loop-part.invariant.same first c.read.ensures move

use Rattle.sp_place.proofs.Runs.{reached_wrong, reached_whole, reached_left}
use Rattle.sp_place.proofs.refused.follow.Goals as goal

pub returns-in_default-2 : goal.returns-in_default-2
returns-in_default-2 c =
    let first = rw c.in-Some.is at c.first.ensures.value in
    let refuses = rw c.in_default-2.is at c.in_ok-open.ensures in
    reached_wrong c.loop-token.invariant.reached first refuses

pub returns-then-none_left : goal.returns-then-none_left
returns-then-none_left c =
    let none = rw c.in_default.is at c.first.ensures.value in
    let done = rw c.if-none_left.true at c.is_empty-none_left.ensures in
    reached_whole c.loop-token.invariant.reached none done

pub returns : goal.returns
returns c =
    let none = rw c.in_default.is at c.first.ensures.value in
    let left = rw c.if-none_left.false at c.is_empty-none_left.ensures in
    reached_left c.loop-token.invariant.reached none left

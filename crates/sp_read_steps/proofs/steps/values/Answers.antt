use Rattle.std.proofs.Common.{arith}
use Rattle.sp_read_steps.specs.View.{symbols_of}
use Rattle.sp_read_steps.proofs.Heads.{given_shorter}
use Rattle.sp_read_steps.proofs.Going.{values_more, values_last, values_no_sign}
use Rattle.sp_read_steps.proofs.steps.values.Goals as goal

pub returns-then-is_nothing : goal.returns-then-is_nothing
returns-then-is_nothing c =
    let one = rw c.in-Some.is at c.in_ok-next.ensures in
    let n = rw c.if-is_nothing.true at c.is_nothing.ensures in
    rw c.in_ok-push.ensures (values_last c.loop-found.invariant one n)

pub loop-found-smaller : goal.loop-found-smaller
loop-found-smaller c =
    let one = rw c.in-Some.is at c.in_ok-next.ensures in
    omega (arith, given_shorter (symbols_of c.args.symbols.now.items) one, c.in-Some-after.ensures.shorter)

pub loop-found-preserved : goal.loop-found-preserved
loop-found-preserved c =
    let one = rw c.in-Some.is at c.in_ok-next.ensures in
    rw c.in_ok-push.ensures (values_more c.loop-found.invariant one c.in-Some-after.ensures.value)

pub returns-in-None : goal.returns-in-None
returns-in-None c =
    let one = rw c.in-Some.is at c.in_ok-next.ensures in
    let n = rw c.if-is_nothing.false at c.is_nothing.ensures in
    values_no_sign c.loop-found.invariant one n c.in-None.ensures.value

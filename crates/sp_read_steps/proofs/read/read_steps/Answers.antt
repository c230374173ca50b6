use Rattle.std.proofs.Common.{arith, map}
use Rattle.std.specs.Prelude.{option_map}
use Rattle.sp_fact.specs.GroundView.{step_of}
use Rattle.sp_read_steps.proofs.Passed.{unread_line, more_lines, last_line}
use Rattle.sp_read_steps.proofs.read.read_steps.Goals as goal

pub returns-then-not-branch : goal.returns-then-not-branch
returns-then-not-branch c =
    let h = rw c.if-not-branch.true at c.in_ok-take_line.ensures in
    unread_line c.cut.result.0.now (map step_of c.take_line.new.steps.items) (option_map (λ x. x.now) c.cut.result.1) c.requires.named c.loop-steps.invariant.passed c.cut.ensures.value h

pub loop-steps-preserved : goal.loop-steps-preserved
loop-steps-preserved c =
    let h = rw c.if-not-branch.false at c.in_ok-take_line.ensures in
    let e = rw c.in-Some.is at c.cut.ensures.value in
    let s = rw c.in-Some.is at c.cut.ensures.shorter in
    record {
      passed = more_lines c.cut.result.0.now c.in-Some.more.now (map step_of c.take_line.new.steps.items) c.loop-steps.invariant.passed e h;
      counted = omega (arith, s, c.loop-steps.invariant.counted);
    }

pub returns-in-None : goal.returns-in-None
returns-in-None c =
    let h = rw c.if-not-branch.false at c.in_ok-take_line.ensures in
    let e = rw c.in-None.is at c.cut.ensures.value in
    last_line c.cut.result.0.now (map step_of c.take_line.new.steps.items) c.loop-steps.invariant.passed e h

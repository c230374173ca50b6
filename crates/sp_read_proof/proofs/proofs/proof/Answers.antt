use Rattle.std.proofs.Common.{◌≡◌, length, arith}
use Rattle.std.proofs.lemmas.List.{length-map}
use Rattle.sp_read_parts.specs.Views.{seen_from}
use Rattle.sp_written.specs.Views.{step_at}
use Rattle.sp_read_proof.specs.View.{steps_of}
use Rattle.sp_read_proof.proofs.Going.{closed_none}
use Rattle.sp_read_proof.proofs.Reading.{goes_ended, waits_start, waits_stuck, waits_leaf, waits_alone, waits_cases, waits_on}
use Rattle.sp_read_proof.proofs.proofs.proof.Goals as goal

pub loop-first-init : goal.loop-first-init
loop-first-init c = record { waits = rw (c.new-steps.ensures.items, c.new-frames.ensures.items) (waits_start (seen_from c.args.tokens.now c.args.at)); further = omega arith }

pub returns-in_default-clause-value : goal.returns-in_default-clause-value
returns-in_default-clause-value c =
    let first = rw c.in_default.is at c.line.ensures in
    waits_stuck c.loop-first.invariant.waits first.value

pub loop-first-preserved-in-Alone : goal.loop-first-preserved-in-Alone
loop-first-preserved-in-Alone c =
    let first = rw c.in-Some.is at c.line.ensures in
    let is = rw c.in-Alone.is at first.value in
    record { waits = waits_alone c.loop-first.invariant.waits is c.in_ok-push_step-in-Alone.ensures c.in_ok-push_frame-in-Alone.ensures; further = omega (arith, first.further, c.loop-first.invariant.further) }

pub loop-first-preserved-in-Cases : goal.loop-first-preserved-in-Cases
loop-first-preserved-in-Cases c =
    let first = rw c.in-Some.is at c.line.ensures in
    let is = rw c.in-Cases.is at first.value in
    let place : c.len-place.result ≡ length (steps_of c.loop-first.steps.items) = omega (arith, c.len-place.ensures, c.loop-first.steps.ok.0, length-map c.loop-first.steps.items step_at) in
    record {
      waits = waits_cases c.loop-first.invariant.waits is place c.in_ok-push_step-in-Cases.ensures c.in_ok-push_frame-in-Cases.ensures;
      further = omega (arith, first.further, c.loop-first.invariant.further);
    }

pub close-requires-clause-ended : goal.close-requires-clause-ended
close-requires-clause-ended c =
    let first = rw c.in-Some.is at c.line.ensures in
    let is = rw c.in-Leaf.is at first.value in
    goes_ended (waits_leaf c.loop-first.invariant.waits is c.in_ok-push_leaf-in-Leaf.ensures)

pub returns-in_default-2-clause-value : goal.returns-in_default-2-clause-value
returns-in_default-2-clause-value c =
    let first = rw c.in-Some.is at c.line.ensures in
    let is = rw c.in-Leaf.is at first.value in
    let goes = waits_leaf c.loop-first.invariant.waits is c.in_ok-push_leaf-in-Leaf.ensures in
    let end = rw c.in_default-2.is at c.in_ok-end-in-Leaf.ensures in
    closed_none {fs = goes.frames} goes.same (end.value goes.frames goes.proof goes.ends)

pub whole-requires : goal.whole-requires
whole-requires c =
    let first = rw c.in-Some.is at c.line.ensures in
    let is = rw c.in-Leaf.is at first.value in
    let goes = waits_leaf c.loop-first.invariant.waits is c.in_ok-push_leaf-in-Leaf.ensures in
    let end = rw (c.in-Some-2.is, c.in-Whole.is) at c.in_ok-end-in-Leaf.ensures in
    (end.value goes.frames goes.proof goes.ends).0

pub returns-in-Whole-clause-value : goal.returns-in-Whole-clause-value
returns-in-Whole-clause-value c =
    let first = rw c.in-Some.is at c.line.ensures in
    let is = rw c.in-Leaf.is at first.value in
    let goes = waits_leaf c.loop-first.invariant.waits is c.in_ok-push_leaf-in-Leaf.ensures in
    let end = rw (c.in-Some-2.is, c.in-Whole.is) at c.in_ok-end-in-Leaf.ensures in
    rw c.whole.ensures (goes.same.goes _ _ (end.value goes.frames goes.proof goes.ends).1)

pub loop-first-preserved : goal.loop-first-preserved
loop-first-preserved c =
    let first = rw c.in-Some.is at c.line.ensures in
    let is = rw c.in-Leaf.is at first.value in
    let goes = waits_leaf c.loop-first.invariant.waits is c.in_ok-push_leaf-in-Leaf.ensures in
    let end = rw (c.in-Some-2.is, c.in-Case.is) at c.in_ok-end-in-Leaf.ensures in
    record {
      waits = waits_on goes.same (end.value goes.frames goes.proof goes.ends);
      further = omega (arith, first.further, end.further, c.loop-first.invariant.further);
    }

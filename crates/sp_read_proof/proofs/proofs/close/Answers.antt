use Rattle.std.proofs.Common.{arith}
use Rattle.std.proofs.lemmas.List.{length-map}
use Rattle.sp_read_parts.specs.Views.{seen_from}
use Rattle.sp_read_proof.proofs.Reading.{goes_start, goes_whole, goes_lone, goes_place, goes_stuck, goes_end, goes_another}
use Rattle.sp_read_proof.proofs.proofs.close.Goals as goal

pub loop-frame-init : goal.loop-frame-init
loop-frame-init c = record { going = λ fs k h. goes_start h (seen_from c.args.tokens.now c.args.at); further = omega arith; within = omega arith }

pub loop-frame-preserved-in-Lone : goal.loop-frame-preserved-in-Lone
loop-frame-preserved-in-Lone c =
    let is = rw c.in-Lone.is at c.in-Some.ensures in
    record { going = λ fs k h. goes_lone (c.loop-frame.invariant.going fs k h) is; further = omega arith; within = omega arith }

pub returns-in_default-behind_case-clause-value : goal.returns-in_default-behind_case-clause-value
returns-in_default-behind_case-clause-value c fs k h =
    let is = rw c.in-Among.is at c.in-Some.ensures in
    let end = rw c.in_default-behind_case.is at c.behind_case.ensures in
    goes_stuck (c.loop-frame.invariant.going fs k h) is end.value

pub loop-frame-preserved : goal.loop-frame-preserved
loop-frame-preserved c =
    let is = rw c.in-Among.is at c.in-Some.ensures in
    let end = rw c.in-Some-behind_case.is at c.behind_case.ensures in
    let behind = rw c.in-Ended.is at end.value in
    record {
      going = λ fs k h. goes_end (c.loop-frame.invariant.going fs k h) is behind;
      further = omega (arith, end.further, c.loop-frame.invariant.further);
      within = omega (arith, end.further);
    }

pub name_case-requires : goal.name_case-requires
name_case-requires c =
    let is = rw c.in-Among.is at c.in-Some.ensures in
    let e = c.requires.ended in
    simp length-map at (goes_place (c.loop-frame.invariant.going e.frames e.proof e.ends) is)

pub returns-in-Another-clause-value : goal.returns-in-Another-clause-value
returns-in-Another-clause-value c fs k h =
    let is = rw c.in-Among.is at c.in-Some.ensures in
    let end = rw c.in-Some-behind_case.is at c.behind_case.ensures in
    let behind = rw c.in-Another.is at end.value in
    goes_another (c.loop-frame.invariant.going fs k h) is behind c.in_ok-name_case-in-Another.ensures c.in_ok-push_frame-in-Another.ensures

pub returns-clause-value : goal.returns-clause-value
returns-clause-value c fs k h = goes_whole (c.loop-frame.invariant.going fs k h) c.in_default.ensures

use Rattle.std.proofs.Common.{◌<◌, ◌≡◌, length, get_or, sym, ◌∙◌, arith}
use Rattle.sp_spec_system.specs.Move.{premise}
use Rattle.sp_fact.specs.View.{fact_of}
use Rattle.sp_system.specs.SystemView.{system_of}
use Rattle.sp_step.proofs.EventMoves.{is_open}
use Rattle.sp_step.proofs.Choosing.{next_place}
use Rattle.sp_step.proofs.events.first_among.Goals as goal

pub returns-then-is_open : goal.returns-then-is_open
returns-then-is_open c context =
    let s = system_of c.args.system.now in
    let time = c.args.time in
    let all = c.args.premises.now.items in
    let f = c._premise-item.result in
    let k = c.loop-place.place in
    let is : f ≡ get_or all k f = rw c.deref-premise-items.ensures.value at c._premise-item.is in
    let below : k < length all = omega arith in
    let step = next_place context s (premise time) fact_of all k f c.is_open.result below is (is_open context s time k ∙ sym c.is_open.ensures) in
    sym (rw c.if-is_open.true at step) ∙ c.loop-place.invariant context

pub loop-place-preserved : goal.loop-place-preserved
loop-place-preserved c context =
    let s = system_of c.args.system.now in
    let time = c.args.time in
    let all = c.args.premises.now.items in
    let f = c._premise-item.result in
    let k = c.loop-place.place in
    let is : f ≡ get_or all k f = rw c.deref-premise-items.ensures.value at c._premise-item.is in
    let below : k < length all = omega arith in
    let step = next_place context s (premise time) fact_of all k f c.is_open.result below is (is_open context s time k ∙ sym c.is_open.ensures) in
    sym (rw c.if-is_open.false at step) ∙ c.loop-place.invariant context

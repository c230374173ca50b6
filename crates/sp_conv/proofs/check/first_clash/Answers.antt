use Rattle.std.proofs.Common.{map}
use Rattle.sp_term.specs.Bindings.{bindings}
use Rattle.sp_fact.specs.GroundView.{equation_of}
use Rattle.sp_conv.proofs.Searches.{item_at, all_passed, none_clash_more, none_clash_at_all, clash_found}
use Rattle.sp_conv.proofs.check.first_clash.Goals as goal

pub returns-in-Some : goal.returns-in-Some
returns-in-Some c =
    let es = map equation_of c.args.equations.now.items in
    let item = item_at equation_of c.deref-first-items.result.now c.args.equations.now.items c.loop-place.place c.first-item.result
    c.deref-first-items.ensures.value c.loop-place-test.true c.first-item.is in
    clash_found es c.loop-place.place c.in-Some.behind (equation_of c.first-item.result) (bindings c.in-Some.unifier)
    item c.loop-place.invariant (rw c.in-Some.is at c.in_ok-found.ensures)

pub loop-place-preserved : goal.loop-place-preserved
loop-place-preserved c =
    let es = map equation_of c.args.equations.now.items in
    let item = item_at equation_of c.deref-first-items.result.now c.args.equations.now.items c.loop-place.place c.first-item.result
    c.deref-first-items.ensures.value c.loop-place-test.true c.first-item.is in
    none_clash_more es c.loop-place.place (equation_of c.first-item.result) item (rw c.in_default.is at c.in_ok-found.ensures) c.loop-place.invariant

pub returns : goal.returns
returns c =
    let es = map equation_of c.args.equations.now.items in
    none_clash_at_all es c.loop-place.place
    (all_passed equation_of c.deref-first-items.result.now c.args.equations.now.items c.loop-place.place c.deref-first-items.ensures.value c.loop-place-test.false)
    c.loop-place.invariant

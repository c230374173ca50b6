use Rattle.std.proofs.Common.{map, arith}
use Rattle.sp_term.specs.Bindings.{bindings}
use Rattle.sp_fact.specs.GroundView.{equation_of}
use Rattle.sp_conv.proofs.Searches.{item_at, all_passed, between_more, between_all, behind_found}
use Rattle.sp_conv.proofs.check.first_behind.Goals as goal
use Rattle.sp_conv.proofs.check.first_behind.Goals.{then-place-behind+in_ok-found+in_default, else-place-behind}

pub returns-in-Some : goal.returns-in-Some
returns-in-Some c =
    let es = map equation_of c.args.equations.now.items in
    let item = item_at equation_of c.deref-second-items.result.now c.args.equations.now.items c.loop-behind.behind c.second-item.result
    c.deref-second-items.ensures.value c.loop-behind-test.true c.second-item.is in
    behind_found es c.args.place (equation_of c.args.first.now) c.loop-behind.behind (equation_of c.second-item.result) (bindings c.in-Some.unifier)
    item c.if-place-behind.true (rw c.in-Some.is at c.in_ok-found.ensures) c.loop-behind.invariant

pub loop-behind-preserved : goal.loop-behind-preserved
loop-behind-preserved c =
    let es = map equation_of c.args.equations.now.items in
    let item = item_at equation_of c.deref-second-items.result.now c.args.equations.now.items c.loop-behind.behind c.second-item.result
    c.deref-second-items.ensures.value c.loop-behind-test.true c.second-item.is in
    between_more es c.args.place (equation_of c.args.first.now) c.loop-behind.behind (equation_of c.second-item.result) item
    (elim c.if-place-behind.branch [
      | then-place-behind+in_ok-found+in_default w ↦ λ h. rw w.in_default.is at w.in_ok-found.ensures
      | else-place-behind w ↦ λ h. let not = w.if-place-behind.false in absurd (omega arith)
    ]) c.loop-behind.invariant

pub returns : goal.returns
returns c =
    let es = map equation_of c.args.equations.now.items in
    between_all es c.args.place (equation_of c.args.first.now) c.loop-behind.behind
    (all_passed equation_of c.deref-second-items.result.now c.args.equations.now.items c.loop-behind.behind c.deref-second-items.ensures.value c.loop-behind-test.false)
    c.loop-behind.invariant

use Rattle.std.proofs.Common.{sym, ◌∙◌}
use Rattle.sp_system.specs.SystemView.{system_of}
use Rattle.sp_undecided.proofs.Counted.{top_next}
use Rattle.sp_undecided.proofs.messages.first_top.Goals as goal

pub returns-then-has_variable : goal.returns-then-has_variable
returns-then-has_variable c context =
    let s = system_of c.args.system.now in
    let step = top_next context s c.loop-number.number c.args.system.now.next c.has_variable.result c.loop-number-test.true (sym c.has_variable.ensures) in
    sym (rw c.if-has_variable.true at step) ∙ c.loop-number.invariant context

pub loop-number-preserved : goal.loop-number-preserved
loop-number-preserved c context =
    let s = system_of c.args.system.now in
    let step = top_next context s c.loop-number.number c.args.system.now.next c.has_variable.result c.loop-number-test.true (sym c.has_variable.ensures) in
    sym (rw c.if-has_variable.false at step) ∙ c.loop-number.invariant context

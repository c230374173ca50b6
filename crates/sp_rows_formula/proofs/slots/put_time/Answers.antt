use Rattle.std.proofs.Common.{None, sym, arith}
use Rattle.sp_rows_formula.proofs.SlotValues.{time_past, time_there, time_again, time_other}
use Rattle.sp_rows_formula.proofs.slots.put_time.Goals as goal

pub returns-then-place-len : goal.returns-then-place-len
returns-then-place-len c = sym (time_past c.args.times.items c.args.place c.args.time (omega (arith, c.if-place-len.true, c.len.ensures)))

pub returns-then-other-time : goal.returns-then-other-time
returns-then-other-time c = sym (time_again c.args.times.items c.args.place c.args.time c.in-Some.other (omega (arith, c.if-place-len.false, c.len.ensures)) (rw (sym c.in-Some.is) c.index.ensures) c.if-other-time.true)

pub returns-else-other-time : goal.returns-else-other-time
returns-else-other-time c = sym (time_other c.args.times.items c.args.place c.args.time c.in-Some.other (omega (arith, c.if-place-len.false, c.len.ensures)) (rw (sym c.in-Some.is) c.index.ensures) c.if-other-time.false)

pub returns-in-None : goal.returns-in-None
returns-in-None c = sym (time_there c.args.times.items c.args.place c.args.time None (omega (arith, c.if-place-len.false, c.len.ensures)) (rw (sym c.in-None.is) c.index.ensures))

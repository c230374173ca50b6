use Rattle.std.proofs.Common.{◌-◌, refl, sym, arith}
use Rattle.sp_spec.specs.Guarded.{free_time, bound_time}
use Rattle.sp_spec.specs.Change.{raised_time}
use Rattle.sp_rows_formula.specs.OpeningView.{change_of}
use Rattle.sp_rows_formula.proofs.Openings.{stands_there, stands_past}
use Rattle.sp_rows_formula.proofs.Lifted.{lifted_inside, stays_past, moves_past}
use Rattle.sp_rows_formula.proofs.opening.Values.moment.Goals as goal

pub returns-then-place-inside : goal.returns-then-place-inside
returns-then-place-inside c =
    sym (lifted_inside bound_time raised_time (λ k. refl) c.args.inside.times (change_of c.args.self.now).bound_times c.args.place c.if-place-inside.true)

pub returns-then-beyond-count : goal.returns-then-beyond-count
returns-then-beyond-count c =
    let beyond = c.args.place - c.args.inside.times in
    let there = stands_there free_time c.args.self.now.times.items bound_time beyond (c.len-count.result - 1 - beyond) c.index.result.now
    (omega (arith, c.if-beyond-count.true, c.len-count.ensures)) c.index.ensures in
    sym
    (stays_past bound_time raised_time (λ k. refl) c.args.inside.times (change_of c.args.self.now).bound_times c.args.place beyond (free_time c.index.result.now)
    (omega (arith, c.if-place-inside.false)) there refl)

pub returns-else-beyond-count : goal.returns-else-beyond-count
returns-else-beyond-count c =
    let beyond = c.args.place - c.args.inside.times in
    let past = stands_past free_time c.args.self.now.times.items bound_time beyond (beyond - c.len-count.result)
    (omega (arith, c.if-beyond-count.false, c.len-count.ensures)) in
    sym
    (moves_past bound_time raised_time (λ k. refl) c.args.inside.times (change_of c.args.self.now).bound_times c.args.place beyond (beyond - c.len-count.result) (c.args.place - c.len-count.result)
    (omega (arith, c.if-place-inside.false)) past (omega (arith, c.if-place-inside.false, c.if-beyond-count.false)))

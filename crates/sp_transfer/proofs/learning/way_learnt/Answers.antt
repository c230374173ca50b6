use Rattle.std.proofs.Common.{◌-◌, ◌≤◌, ◌∙◌, ◌∷◌, length, take, sym, ap, arith}
use Rattle.sp_fact.specs.GroundView.{ground_of}
use Rattle.sp_learn.specs.View.{entry_of, how_of}
use Rattle.sp_transfer.specs.View.{log_in}
use Rattle.sp_transfer.proofs.Entries.{log_back, way_here, way_before, way_passed}
use Rattle.sp_transfer.proofs.learning.way_learnt.Goals as goal

pub returns-then-same : goal.returns-then-same
returns-then-same c =
    let entries = c.args.entries.now.items in
    let n = c.loop-place.place in
    let within : n ≤ length entries = let l = c.len-place.ensures in let o = c.args.entries.now.ok in omega (arith, l, o) in
    let past = log_in (take (n - 1) entries) in
    let back = log_back entries n c.index.result.now c.loop-place-test.true within c.index.ensures ∙ ap (λ e. entry_of e ∷ past) c.in-Learn.is in
    sym
    (c.loop-place.invariant
    ∙ way_here (log_in (take n entries)) past (ground_of c.args.message.now) (ground_of c.in-Learn.learnt) (how_of c.in-Learn.how) back (sym c.if-same.ensures.tests))

pub loop-place-preserved-else-same : goal.loop-place-preserved-else-same
loop-place-preserved-else-same c =
    let entries = c.args.entries.now.items in
    let n = c.loop-place.place in
    let within : n ≤ length entries = let l = c.len-place.ensures in let o = c.args.entries.now.ok in omega (arith, l, o) in
    let past = log_in (take (n - 1) entries) in
    let back = log_back entries n c.index.result.now c.loop-place-test.true within c.index.ensures ∙ ap (λ e. entry_of e ∷ past) c.in-Learn.is in
    c.loop-place.invariant
    ∙ way_before (log_in (take n entries)) past (ground_of c.args.message.now) (ground_of c.in-Learn.learnt) (how_of c.in-Learn.how) back (sym c.if-same.ensures.tests)

pub loop-place-preserved : goal.loop-place-preserved
loop-place-preserved c =
    let entries = c.args.entries.now.items in
    let n = c.loop-place.place in
    let within : n ≤ length entries = let l = c.len-place.ensures in let o = c.args.entries.now.ok in omega (arith, l, o) in
    let past = log_in (take (n - 1) entries) in
    c.loop-place.invariant
    ∙ way_passed (log_in (take n entries)) past (ground_of c.args.message.now) c.index.result.now
    (log_back entries n c.index.result.now c.loop-place-test.true within c.index.ensures) c.in_default.not-Learn

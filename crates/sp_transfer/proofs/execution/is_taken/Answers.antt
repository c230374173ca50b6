use Rattle.std.proofs.Common.{◌+◌, ◌∙◌, drop, map, sym, ap}
use Rattle.sp_spec.proofs.Lists.{next_item}
use Rattle.sp_learn.specs.View.{entry_of}
use Rattle.sp_law_log_execution.specs.Executed as spec
use Rattle.sp_transfer.specs.View.{log_in}
use Rattle.sp_transfer.proofs.Executing.{taken_here, taken_later}
use Rattle.sp_transfer.proofs.execution.is_taken.Goals as goal

pub returns-then-takes_from : goal.returns-then-takes_from
returns-then-takes_from c =
    let entries = c.args.earlier.now in
    let i = c.loop-entry.entry-index in
    let p = c.args.position in
    let k = c.args.place in
    let e = c.entry-item.result in
    let next = next_item entries i e c.loop-entry-test.true c.entry-item.is in
    sym
    (c.loop-entry.invariant ∙ ap (λ xs. spec.is_taken (log_in xs) p k) next
    ∙ taken_here (entry_of e) (map entry_of (drop (i + 1) entries)) p k (sym c.if-takes_from.ensures))

pub loop-entry-preserved : goal.loop-entry-preserved
loop-entry-preserved c =
    let entries = c.args.earlier.now in
    let i = c.loop-entry.entry-index in
    let p = c.args.position in
    let k = c.args.place in
    let e = c.entry-item.result in
    let next = next_item entries i e c.loop-entry-test.true c.entry-item.is in
    c.loop-entry.invariant ∙ ap (λ xs. spec.is_taken (log_in xs) p k) next
    ∙ taken_later (entry_of e) (map entry_of (drop (i + 1) entries)) p k (sym c.if-takes_from.ensures)

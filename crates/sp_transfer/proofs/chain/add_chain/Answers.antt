use Rattle.std.proofs.Common.{◌∙◌, ◌+◌, ◌++◌, List, drop, map, sym, ap}
use Rattle.sp_spec.specs.Lists.{newest_first}
use Rattle.sp_spec.specs.Execution.{Step}
use Rattle.sp_spec.proofs.Lists.{next_item}
use Rattle.sp_fact.specs.GroundView.{ground_of, step_of}
use Rattle.sp_law_log_execution.specs.Executed.{chain_steps}
use Rattle.sp_transfer.specs.Executing.{linking_in}
use Rattle.sp_transfer.proofs.Executing.{chain_more}
use Rattle.sp_transfer.proofs.chain.add_chain.Goals as goal

pub loop-next-preserved : goal.loop-next-preserved
loop-next-preserved c =
    let by = linking_in c.args.linking.now in
    let learnt = map ground_of c.args.learnt.now.items in
    let messages = c.args.messages.now in
    let i = c.loop-next.next-index in
    let from = ground_of c.loop-next.from.now in
    let next = c.next-item.result in
    let rest = map ground_of (drop (i + 1) messages) in
    let before = map step_of c.loop-next.steps.items in
    ap (λ (xs : List Step). xs ++ newest_first (chain_steps by learnt (ground_of next) rest)) c.in_ok-add_link.ensures
    ∙ sym (chain_more by learnt before from (ground_of next) rest)
    ∙ ap (λ ts. before ++ newest_first (chain_steps by learnt from (map ground_of ts))) (sym (next_item messages i next c.loop-next-test.true c.next-item.is))
    ∙ c.loop-next.invariant

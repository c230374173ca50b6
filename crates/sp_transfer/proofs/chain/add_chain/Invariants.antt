use Rattle.std.proofs.Common.{◌≡◌, ◌++◌, drop, map}
use Rattle.sp_spec.specs.Lists.{newest_first}
use Rattle.sp_fact.specs.GroundView.{ground_of, step_of}
use Rattle.sp_law_log_execution.specs.Executed as spec
use Rattle.sp_transfer.specs.Executing.{linking_in}
use Rattle.sp_transfer.proofs.chain.add_chain.Given as goal

abbrev pub invariant-loop-next : goal.invariant-loop-next
invariant-loop-next l =
    let chain = spec.chain_steps (linking_in l.linking) (map ground_of l.learnt.items) in
    map step_of l.steps.items ++ newest_first (chain (ground_of l.from) (map ground_of (drop l.next-index l.messages)))
    ≡ map step_of l.fn.steps.items ++ newest_first (chain (ground_of l.fn.first) (map ground_of l.messages))

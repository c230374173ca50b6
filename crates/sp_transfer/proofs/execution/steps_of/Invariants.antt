use Rattle.std.proofs.Common.{◌≡◌, ◌++◌, [], drop, map, take}
use Rattle.sp_fact.specs.GroundView.{equation_of, step_of}
use Rattle.sp_book.specs.View.{rule_forms_of}
use Rattle.sp_learn.specs.View.{entry_of}
use Rattle.sp_transfer.specs.Executing.{linking_in}
use Rattle.sp_transfer.proofs.Executing.{steps_behind}
use Rattle.sp_transfer.proofs.execution.steps_of.Given as goal

abbrev pub invariant-loop-number : goal.invariant-loop-number
invariant-loop-number l =
    let behind = steps_behind (map equation_of l.signature.equations.items) (map rule_forms_of l.rules.items) (linking_in l.linking) in
    map step_of l.steps.items ++ behind (map entry_of (take l.number l.entries.items)) (map entry_of (drop l.number l.entries.items))
    ≡ behind [] (map entry_of l.entries.items)

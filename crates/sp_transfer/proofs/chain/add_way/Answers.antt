use Rattle.std.proofs.Common.{◌∙◌, ◌++◌, map, ap, sym}
use Rattle.std.proofs.lemmas.List.{append-nil}
use Rattle.sp_spec.specs.Lists.{newest_first}
use Rattle.sp_law_log_execution.specs.Executed as spec
use Rattle.sp_fact.specs.GroundView.{ground_of, step_of}
use Rattle.sp_transfer.specs.Executing.{levels_of}
use Rattle.sp_transfer.proofs.Executing.{is_absent, way_absent}
use Rattle.sp_transfer.proofs.chain.add_way.Goals as goal

pub returns-in_default : goal.returns-in_default
returns-in_default c =
    let ways = c.args.linking.now.ways.items in
    let n = c.args.number in
    let before = map step_of c.args.steps.now.items in
    let none = way_absent levels_of ways n (is_absent c.deref.result.now ways n c.deref.ensures.value c.in_default.ensures.lookup.3) in
    sym
    (ap (λ ls. before ++ newest_first (spec.raising ls (map ground_of c.args.messages.now.items) (ground_of c.args.end.now))) none
    ∙ append-nil before)

use Rattle.std.proofs.Common.{◌≡◌, ◌∙◌, ◌+◌, ◌∷◌, [], ◌++◌, IfOk, map, sym, ap, subst}
use Rattle.std.proofs.lemmas.List.{drop-map}
use Rattle.std.proofs.lemmas.Result.{IfOk-weaker}
use Rattle.sp_spec.specs.Lists.{newest_first}
use Rattle.sp_spec.specs.Term.{Ground}
use Rattle.sp_spec.specs.Execution as execution
use Rattle.sp_law_log_execution.specs.Executed as spec
use Rattle.sp_fact.specs.GroundView.{ground_of, grounds_of, step_of}
use Rattle.sp_transfer.specs.Executing.{level_of}
use Rattle.sp_transfer.proofs.Executing.{raised_more, raising_more}
use Rattle.sp_transfer.proofs.raising.+raise.Goals as goal

pub returns-clause-gives : goal.returns-clause-gives
returns-clause-gives t c =
    let levels = map level_of c.args.levels.now in
    let below = map level_of c.in-Some.below.now in
    let l = level_of c.in-Some.level.now in
    let messages = c.args.messages.now in
    let sides = ap (map ground_of) c.behind-sides.ensures ∙ sym (drop-map ground_of (l.front + l.back) messages) in
    let end = ground_of c.args.end.now in
    let more = raised_more levels below l (map ground_of messages) (map ground_of c.behind-sides.result.now) end (ground_of c.in_ok-entered.entered)
    (grounds_of c.in_ok-applied.applied.items) (ap (map level_of) c.in-Some.ensures.cases.0) sides c.in_ok-entered.ensures.gives c.in_ok-applied.ensures in
    subst (λ (z : Ground). IfOk c.apply.result (λ r. ground_of r ≡ z)) more c.apply.ensures.gives

pub returns-clause-adds : goal.returns-clause-adds
returns-clause-adds t c =
    let levels = map level_of c.args.levels.now in
    let below = map level_of c.in-Some.below.now in
    let l = level_of c.in-Some.level.now in
    let messages = c.args.messages.now in
    let sides = ap (map ground_of) c.behind-sides.ensures ∙ sym (drop-map ground_of (l.front + l.back) messages) in
    let end = ground_of c.args.end.now in
    let args = grounds_of c.in_ok-applied.applied.items in
    let before = map step_of c.args.steps.now.items in
    let inner = map step_of c.raise.new.steps.items in
    let after = map step_of c.apply.new.steps.items in
    IfOk-weaker c.apply.result (λ r. after ≡ inner ++ execution.apply_symbol l.symbol args ∷ [])
    (λ r. after ≡ before ++ newest_first (spec.raising levels (map ground_of messages) end))
    (λ r a. raising_more levels below l (map ground_of messages) (map ground_of c.behind-sides.result.now) end (ground_of c.in_ok-entered.entered)
    args (ap (map level_of) c.in-Some.ensures.cases.0) sides c.in_ok-entered.ensures.gives c.in_ok-applied.ensures before inner after c.in_ok-entered.ensures.adds a)
    c.apply.ensures.adds

use Rattle.std.proofs.Common.{◌∙◌, ◌++◌, ◌∷◌, [], List, if◌then◌else◌, map, sym, ap, append_assoc}
use Rattle.std.proofs.lemmas.Result.{IfOk-equal}
use Rattle.sp_spec.specs.Execution.{Step, take_out}
use Rattle.sp_spec.specs.Lists.{newest_first}
use Rattle.sp_spec.specs.Term.{Ground}
use Rattle.sp_law_log_execution.specs.Executed.{chain_steps, from_out, is_taken, messages_learnt}
use Rattle.sp_fact.specs.GroundView.{ground_of, step_of}
use Rattle.sp_learn.specs.View.{entry_of}
use Rattle.sp_transfer.specs.Executing.{linking_in}
use Rattle.sp_transfer.specs.View.{log_in}
use Rattle.sp_transfer.proofs.Executing.{from_out_newest, learnt_oldest}
use Rattle.sp_transfer.proofs.execution.add_from_out.Goals as goal

pub returns : goal.returns
returns c =
    let by = linking_in c.args.linking.now in
    let entries = map entry_of c.args.earlier.now in
    let past = log_in c.args.earlier.now in
    let p = c.args.conclusion.0 in
    let k = c.args.conclusion.1 in
    let t = ground_of c.in-Some.first.now in
    let chain = map ground_of c.in-Some.rest.now in
    let old = map step_of c.args.steps.now.items in
    let taken = map step_of c.add_taking.new.steps.items in
    let along = λ (ms : List Ground). newest_first (chain_steps by ms t chain) in
    let learnt = map ground_of c.in_ok-learnt.learnt.items in
    let known = along (messages_learnt past) in
    let out : List Step = if is_taken past p k then [] else take_out t ∷ [] in
    let all = ap (λ ms. old ++ newest_first (from_out by past p k (map ground_of ms))) (sym c.in-Some.ensures.cases.0 ∙ c.deref.ensures.value) in
    IfOk-equal c.add_chain.result (map step_of c.add_chain.new.steps.items) (taken ++ along learnt)
    (old ++ newest_first (from_out by past p k (map ground_of c.args.messages.now.items))) c.add_chain.ensures
    (ap (λ ms. taken ++ along ms) (c.in_ok-learnt.ensures ∙ sym (learnt_oldest entries))
    ∙ ap (λ xs. xs ++ known) c.in_ok-add_taking.ensures
    ∙ append_assoc old out known
    ∙ ap (λ xs. old ++ xs) (sym (from_out_newest by past p k t chain))
    ∙ all)

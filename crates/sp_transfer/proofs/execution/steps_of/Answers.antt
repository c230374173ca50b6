use Rattle.std.proofs.Common.{◌≤◌, ◌∙◌, ◌++◌, length, map, take, sym, ap, subst, List}
use Rattle.std.proofs.lemmas.List.{append-nil, drop_all}
use Rattle.sp_spec.specs.Lists.{newest_first}
use Rattle.sp_law_log_execution.specs.Executed.{Linking, executed_by}
use Rattle.sp_fact.specs.GroundView.{equation_of, step_of}
use Rattle.sp_book.specs.View.{rule_forms_of}
use Rattle.sp_learn.specs.View.{entry_of}
use Rattle.sp_learn.specs.declared.log.Entry as memory
use Rattle.sp_transfer.specs.Executing.{linking_in}
use Rattle.sp_transfer.proofs.Executing.{all_newest, steps_behind}
use Rattle.sp_transfer.proofs.execution.steps_of.Goals as goal

pub returns : goal.returns
returns c =
    let es = map equation_of c.args.signature.now.equations.items in
    let rules = map rule_forms_of c.args.rules.now.items in
    let by = linking_in c.in_ok-linking.linking in
    let xs = c.args.entries.now.items in
    let n = c.loop-number.number in
    let steps = map step_of c.loop-number.steps.items in
    let behind = steps_behind es rules by in
    let past = subst (λ (ys : List memory.Entry). length ys ≤ n) c.deref-entry-items.ensures.value c.loop-number-test.false in
    let none = ap (λ ys. steps ++ behind (map entry_of (take n xs)) (map entry_of ys)) (drop_all n xs past) in
    ap newest_first (sym (append-nil steps) ∙ sym none ∙ c.loop-number.invariant)
    ∙ all_newest es rules by (map entry_of xs)
    ∙ ap (λ (b : Linking). executed_by es rules b (newest_first (map entry_of xs))) c.in_ok-linking.ensures

use Rattle.std.proofs.Common.{◌∙◌, ap}
use Rattle.sp_spec_system.specs.System as spec
use Rattle.sp_spec_graph.specs.ReducibleEvent.{has_reducible}
use Rattle.sp_system.specs.SystemView.{system_of}
use Rattle.sp_step.specs.View.{rules_of}
use Rattle.sp_step.proofs.Kept.{row_keeps}
use Rattle.sp_step.proofs.RowSearches.{all_rows, row_fails, row_applies}
use Rattle.sp_step.proofs.simplify.by_rows.Goals as goal

pub loop-row-preserved : goal.loop-row-preserved
loop-row-preserved c =
    let h = rw c.if-branch.false at c.in_ok-reduce.ensures in (
      c.loop-row.invariant.0
          ∙ row_fails (rules_of c.args.rules.now) all_rows c.loop-row.row-index (system_of c.loop-row.system) _ (system_of c.reduce.new.system) c.loop-row-test.true h,
      h.1 ∙ c.loop-row.invariant.1,
    )

pub returns-then-branch-clause-does : goal.returns-then-branch-clause-does
returns-then-branch-clause-does c =
    let h = rw c.if-branch.true at c.in_ok-reduce.ensures in
    c.loop-row.invariant.0
    ∙ row_applies (rules_of c.args.rules.now) all_rows c.loop-row.row-index (system_of c.loop-row.system) _ (system_of c.reduce.new.system) c.loop-row-test.true h

pub returns-then-branch-clause-keeps : goal.returns-then-branch-clause-keeps
returns-then-branch-clause-keeps c kept clean =
    let rules = rules_of c.args.rules.now in
    let h = rw c.if-branch.true at c.in_ok-reduce.ensures in
    row_keeps rules _ (system_of c.loop-row.system) (system_of c.reduce.new.system) kept h
    (ap (λ (s : spec.System). has_reducible rules.signature.equations s.events) c.loop-row.invariant.1 ∙ clean)

use Rattle.std.proofs.Common.{◌≡◌, ◌∙◌, sym, subst, ap, arith}
use Rattle.sp_step.specs.View.{context_of}
use Rattle.sp_system.specs.SystemView.{system_of}
use Rattle.sp_spec_proof.specs.Growth.{grown_tree}
use Rattle.sp_spec_proof.specs.Tree.{found_log}
use Rattle.sp_search.specs.BlockView.{all_of}
use Rattle.sp_search.specs.Kept.{Kept, shown, log_in}
use Rattle.sp_search.specs.Kinds.{kept}
use Rattle.sp_search.proofs.Budget.{goes_on, stops, next_log, turns_end}
use Rattle.sp_search.proofs.Ends.{log_is}
use Rattle.sp_search.proofs.grow.grown_tree.Goals as goal

pub returns-then-not-grew-clause-tree : goal.returns-then-not-grew-clause-tree
returns-then-not-grew-clause-tree c =
    let context = context_of c.args.context.now in
    let s = system_of c.args.root in
    let i = c.loop-turns.invariant in
    let old = kept (all_of c.loop-turns.tree.blocks.items) in
    let next = kept (all_of c.in_ok-next.next.blocks.items) in
    ap shown c.in_ok-stopped.ensures
    ∙ stops context s c.args.budget c.loop-turns.turns old next c.in_ok-next.grew (grown_tree context s c.args.budget) i.0 c.in_ok-next.ensures (omega arith) i.1 c.if-not-grew.true

pub returns-then-not-grew-clause-log : goal.returns-then-not-grew-clause-log
returns-then-not-grew-clause-log c =
    let context = context_of c.args.context.now in
    let s = system_of c.args.root in
    let i = c.loop-turns.invariant in
    let old = kept (all_of c.loop-turns.tree.blocks.items) in
    let next = kept (all_of c.in_ok-next.next.blocks.items) in
    subst (λ (t : Kept). log_in t ≡ found_log context s (shown t)) (sym c.in_ok-stopped.ensures)
    (next_log context s c.args.budget c.loop-turns.turns old next c.in_ok-next.grew (grown_tree context s c.args.budget) i.0 c.in_ok-next.ensures (omega arith) i.1)

pub loop-turns-preserved : goal.loop-turns-preserved
loop-turns-preserved c =
    let context = context_of c.args.context.now in
    let s = system_of c.args.root in
    let i = c.loop-turns.invariant in
    let old = kept (all_of c.loop-turns.tree.blocks.items) in
    let next = kept (all_of c.in_ok-next.next.blocks.items) in
    goes_on context s c.args.budget c.loop-turns.turns old next c.in_ok-next.grew (grown_tree context s c.args.budget) i.0 c.in_ok-next.ensures (omega arith) i.1 c.if-not-grew.false

pub returns-clause-tree : goal.returns-clause-tree
returns-clause-tree c =
    let context = context_of c.args.context.now in
    let s = system_of c.args.root in
    let old = kept (all_of c.loop-turns.tree.blocks.items) in
    ap shown c.in_ok-grown.ensures
    ∙ turns_end context s c.args.budget c.loop-turns.turns (shown old) (grown_tree context s c.args.budget) c.loop-turns.invariant.1 (omega arith)

pub returns-clause-log : goal.returns-clause-log
returns-clause-log c =
    let context = context_of c.args.context.now in
    let s = system_of c.args.root in
    let old = kept (all_of c.loop-turns.tree.blocks.items) in
    subst (λ (t : Kept). log_in t ≡ found_log context s (shown t)) (sym c.in_ok-grown.ensures) (log_is context 0 s old c.loop-turns.invariant.0)

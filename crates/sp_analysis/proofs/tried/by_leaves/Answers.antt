use Rattle.sp_written.specs.Views as view
use Rattle.sp_search.specs.View.{tree_of}
use Rattle.sp_analysis.specs.View.{verdict_of}
use Rattle.sp_analysis.proofs.Verdicts.{when_finished, when_open}
use Rattle.sp_analysis.proofs.tried.by_leaves.Goals as goal

pub returns-then-is_finished : goal.returns-then-is_finished
returns-then-is_finished c =
    when_finished (view.kind c.args.kind) c.is_finished.result (tree_of c.args.tree.now) (verdict_of c.shown.result) c.is_finished.ensures c.if-is_finished.true c.shown.ensures

pub returns-else-is_finished : goal.returns-else-is_finished
returns-else-is_finished c =
    when_open (view.kind c.args.kind) c.is_finished.result (tree_of c.args.tree.now) c.is_finished.ensures c.if-is_finished.false

use Rattle.std.proofs.Common.{◌∙◌}
use Rattle.sp_read_parts.specs.Views.{variable, terms}
use Rattle.sp_guard.specs.View.{innermost_first}
use Rattle.sp_guard.proofs.MarksFit.{first_so, first_not, fitting, action_fits}
use Rattle.sp_guard.proofs.marks.action_fits.Goals as goal

pub returns-then-args : goal.returns-then-args
returns-then-args c =
    first_so c.each_leaf_of_all-args.result c.passes-time.result _ _ c.each_leaf_of_all-args.ensures c.passes-time.ensures c.if-args.true
    ∙ action_fits (innermost_first c.args.binders.now.items) (terms c.args.action.now.args.items) (variable c.args.at.now)

pub returns-else-args : goal.returns-else-args
returns-else-args c =
    let bs = innermost_first c.args.binders.now.items in
    let x = variable c.args.at.now in
    first_not c.each_leaf_of_all-args.result _ (fitting bs x) c.each_leaf_of_all-args.ensures c.if-args.false
    ∙ action_fits bs (terms c.args.action.now.args.items) x

use Rattle.std.proofs.Common.{◌∙◌}
use Rattle.sp_spec.specs.Term.{each_variable}
use Rattle.sp_read_parts.specs.Views.{term}
use Rattle.sp_guard.specs.View.{innermost_first}
use Rattle.sp_guard.proofs.MarksFit.{first_so, first_not, fitting, equality_fits}
use Rattle.sp_guard.proofs.marks.equality_fits.Goals as goal

pub returns-then-first : goal.returns-then-first
returns-then-first c =
    first_so c.each_leaf-first.result c.each_leaf-second.result _ _ c.each_leaf-first.ensures c.each_leaf-second.ensures c.if-first.true
    ∙ equality_fits (innermost_first c.args.binders.now.items) (term c.args.left.now) (term c.args.right.now)

pub returns-else-first : goal.returns-else-first
returns-else-first c =
    let bs = innermost_first c.args.binders.now.items in
    let right = term c.args.right.now in
    first_not c.each_leaf-first.result _ (each_variable (fitting bs) right) c.each_leaf-first.ensures c.if-first.false
    ∙ equality_fits bs (term c.args.left.now) right

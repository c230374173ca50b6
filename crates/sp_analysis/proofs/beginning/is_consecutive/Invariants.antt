use Rattle.std.proofs.Common.{◌≡◌, drop}
use Rattle.sp_written.specs.Views as view
use Rattle.sp_analysis.specs.Sought.{is_consecutive}
use Rattle.sp_analysis.proofs.beginning.is_consecutive.Given as goal

abbrev pub invariant-loop-attribute : goal.invariant-loop-attribute
invariant-loop-attribute l = is_consecutive l.asked (view.attributes (drop l.attribute-index l.attributes.items)) ≡ is_consecutive l.before (view.attributes l.attributes.items)

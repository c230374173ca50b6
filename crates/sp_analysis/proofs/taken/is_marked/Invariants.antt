use Rattle.std.proofs.Common.{◌≡◌, drop}
use Rattle.std.specs.List.{list_any}
use Rattle.sp_written.specs.Views as view
use Rattle.sp_analysis.specs.Taken.{is_reused}
use Rattle.sp_analysis.proofs.taken.is_marked.Given as goal

abbrev pub invariant-loop-attribute : goal.invariant-loop-attribute
invariant-loop-attribute l = list_any is_reused (view.attributes l.attributes.items) ≡ list_any is_reused (view.attributes (drop l.attribute-index l.attributes.items))

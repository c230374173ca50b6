use Rattle.std.proofs.Common.{◌≡◌, drop}
use Rattle.std.specs.List.{list_any}
use Rattle.sp_written.specs.Views as view
use Rattle.sp_analysis.specs.Sought.{marks_induction}
use Rattle.sp_analysis.proofs.beginning.is_inductive.Given as goal

abbrev pub invariant-loop-attribute : goal.invariant-loop-attribute
invariant-loop-attribute l = list_any marks_induction (view.attributes l.attributes.items) ≡ list_any marks_induction (view.attributes (drop l.attribute-index l.attributes.items))

use Rattle.std.proofs.Common.{◌≡◌, drop}
use Rattle.std.specs.List.{list_any}
use Rattle.sp_written.specs.Views as view
use Rattle.sp_analysis.specs.Taken.{hides}
use Rattle.sp_analysis.proofs.taken.is_hidden.Given as goal

abbrev pub invariant-loop-attribute : goal.invariant-loop-attribute
invariant-loop-attribute l =
    list_any (hides l.taken.name.now) (view.attributes l.attributes.items) ≡ list_any (hides l.taken.name.now) (view.attributes (drop l.attribute-index l.attributes.items))

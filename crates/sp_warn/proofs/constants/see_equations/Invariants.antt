use Rattle.std.proofs.Common.{◌≡◌, map, drop}
use Rattle.std.specs.List.{flat_map}
use Rattle.sp_written.specs.Views as view
use Rattle.sp_spec.specs.Constants.{once_after}
use Rattle.sp_warn.specs.Constants.{in_equation}
use Rattle.sp_lines.specs.TextsView.{texts_of}
use Rattle.sp_warn.proofs.constants.see_equations.Given as goal

abbrev pub invariant-loop-equation : goal.invariant-loop-equation
invariant-loop-equation l = once_after (texts_of l.seen) (flat_map in_equation (map view.equation (drop l.equation-index l.equations.items))) ≡ once_after (texts_of l.fn.seen) (flat_map in_equation (map view.equation l.equations.items))

use Rattle.std.proofs.Common.{◌≡◌, ◌+◌, map, drop}
use Rattle.sp_spec_forms.specs.Forms.{above_each}
use Rattle.sp_variant.specs.View.{list_by}
use Rattle.sp_variant.proofs.forms.above_each.Given as goal

abbrev pub invariant-loop-one : goal.invariant-loop-one
invariant-loop-one g l =
    let t = g.T.HasArguments in
    l.number + above_each (map t.args_of (map t.kind_of (drop l.one-index l.one-items))) ≡ above_each (map t.args_of (list_by t.kind_of l.all))

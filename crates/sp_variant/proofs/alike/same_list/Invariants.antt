use Rattle.std.proofs.Common.{◌≡◌, length, map}
use Rattle.std.specs.Slice.Iter.{iter_rest}
use Rattle.sp_spec_forms.specs.Alike.{same_list}
use Rattle.sp_variant.specs.View.{list_by}
use Rattle.sp_variant.proofs.alike.same_list.Given as goal

abbrev pub invariant-loop-x : goal.invariant-loop-x
invariant-loop-x g l =
    let t = g.T.HasArguments in
    (same_list t.alike (list_by t.kind_of l.xs) (list_by t.kind_of l.ys) ≡ same_list t.alike (map t.kind_of (iter_rest l.x-iterator.a)) (map t.kind_of (iter_rest l.x-iterator.b)))
    × (length (iter_rest l.x-iterator.a) ≡ length (iter_rest l.x-iterator.b))

use Rattle.std.proofs.Common.{◌≡◌, map, take}
use Rattle.sp_norm.specs.Bounds.{bound_of, bounds}
use Rattle.sp_destruct.proofs.search.copied.Given as goal

abbrev pub invariant-loop-binding : goal.invariant-loop-binding
invariant-loop-binding l = bounds l.made ≡ map bound_of (take l.binding-index l.binding-items)

use Rattle.std.proofs.Common.{◌≡◌, map, take}
use Rattle.sp_variant.specs.View.{list_by}
use Rattle.sp_variant.proofs.facts.copies.Given as goal

abbrev pub invariant-loop-one : goal.invariant-loop-one
invariant-loop-one g l = list_by g.T.HasArguments.kind_of l.made ≡ map g.T.HasArguments.kind_of (take l.one-index l.one-items)

use Rattle.std.proofs.Common.{◌≡◌, drop, map}
use Rattle.sp_fact.specs.GroundView.{signature_of}
use Rattle.sp_norm.specs.Bounds.{bounds, bound_of}
use Rattle.sp_log.specs.Checking.{are_values}
use Rattle.sp_log.proofs.instance.are_values.Given as goal

abbrev pub invariant-loop-bound : goal.invariant-loop-bound
invariant-loop-bound l =
    are_values (signature_of l.signature) (bounds l.values) ≡ are_values (signature_of l.signature) (map bound_of (drop l.bound-index l.bound-items))

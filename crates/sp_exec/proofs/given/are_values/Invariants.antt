use Rattle.std.proofs.Common.{◌≡◌, drop, map}
use Rattle.sp_fact.specs.GroundView.{symbol_of}
use Rattle.sp_norm.specs.Bounds.{bounds, bound_of}
use Rattle.sp_exec.specs.Next.{are_values}
use Rattle.sp_exec.proofs.given.are_values.Given as goal

abbrev pub invariant-loop-bound : goal.invariant-loop-bound
invariant-loop-bound l =
    are_values (map symbol_of l.symbols.items) (bounds l.values) ≡ are_values (map symbol_of l.symbols.items) (map bound_of (drop l.bound-index l.bound-items))

use Rattle.std.proofs.Common.{◌≡◌, drop, map}
use Rattle.sp_system.specs.SystemView.{system_of}
use Rattle.sp_spec_system.specs.Picked.{first_two}
use Rattle.sp_moves.specs.View.{side_of}
use Rattle.sp_undecided.specs.Undecided.{may_be_same}
use Rattle.sp_undecided.proofs.sides.first_two.Given as goal

abbrev pub invariant-loop-place : goal.invariant-loop-place
invariant-loop-place l =
    first_two (may_be_same (system_of l.system)) (map side_of l.sides.items) ≡ first_two (may_be_same (system_of l.system)) (map side_of (drop l.place l.sides.items))

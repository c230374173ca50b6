use Rattle.std.proofs.Common.{◌≡◌, ◌+◌, ◌++◌, map, drop}
use Rattle.sp_destruct.specs.View.{destruction_of}
use Rattle.sp_system.specs.SystemView.{system_of}
use Rattle.sp_spec_know.specs.Chain as spec
use Rattle.sp_moves.specs.View.{case_of}
use Rattle.sp_moves_know.specs.BegunView.{begun_of}
use Rattle.sp_moves_know.proofs.chain.by_destructions.Given as goal

abbrev pub invariant-loop-place : goal.invariant-loop-place
invariant-loop-place l =
    map case_of l.made.items ++ spec.by_destructions (system_of l.system) l.time (begun_of l.begun) (l.place + 1) (map destruction_of (drop l.place l.destruction-items))
    ≡ spec.by_destructions (system_of l.system) l.time (begun_of l.begun) 1 (map destruction_of l.destructions.items)

use Rattle.std.proofs.Common.{◌≡◌, ◌++◌, [], drop, map, take}
use Rattle.sp_fact.specs.GroundView.{symbol_of}
use Rattle.sp_law_log_execution.specs.Executed as spec
use Rattle.sp_transfer.specs.Executing.{level_of, levels_of}
use Rattle.sp_transfer.proofs.way.ways_along.Given as goal

abbrev pub invariant-loop-place : goal.invariant-loop-place
invariant-loop-place l =
    map levels_of l.found.items
    ++ spec.ways_along (map symbol_of l.symbols.items) (map level_of (take l.place l.way.items)) (map level_of (drop l.place l.way.items))
    ≡ map levels_of l.fn.found.items ++ spec.ways_along (map symbol_of l.symbols.items) [] (levels_of l.way)

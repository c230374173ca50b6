use Rattle.std.proofs.Common.{◌≡◌, ◌++◌, drop, map}
use Rattle.sp_fact.specs.GroundView.{equation_of, signature_of, symbol_of}
use Rattle.sp_law_log_execution.specs.Executed.{destruction_ways, ways_by}
use Rattle.sp_transfer.specs.Executing.{levels_of}
use Rattle.sp_transfer.proofs.way.ways_of.Given as goal

abbrev pub invariant-loop-equation : goal.invariant-loop-equation
invariant-loop-equation l =
    map levels_of l.found.items ++ ways_by (map symbol_of l.signature.symbols.items) (map equation_of (drop l.equation-index l.equation-items))
    ≡ destruction_ways (signature_of l.signature)

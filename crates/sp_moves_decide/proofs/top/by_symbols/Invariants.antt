use Rattle.std.proofs.Common.{◌≡◌, map, take}
use Rattle.sp_fact.specs.GroundView.{symbol_of}
use Rattle.sp_system.specs.SystemView.{system_of}
use Rattle.sp_spec_formula.specs.Top.{by_symbol}
use Rattle.sp_moves.specs.View.{case_of}
use Rattle.sp_moves_decide.proofs.top.by_symbols.Given as goal

abbrev pub invariant-loop-symbol : goal.invariant-loop-symbol
invariant-loop-symbol l = map case_of l.made.items ≡ map (by_symbol (system_of l.system) l.number) (map symbol_of (take l.symbol-index l.symbol-items))

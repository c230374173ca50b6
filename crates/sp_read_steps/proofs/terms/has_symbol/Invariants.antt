use Rattle.std.proofs.Common.{◌≡◌, drop}
use Rattle.sp_read_steps.specs.Reading.{has_symbol}
use Rattle.sp_read_steps.specs.View.{symbols_of}
use Rattle.sp_read_steps.proofs.terms.has_symbol.Given as goal

abbrev pub invariant-loop-symbol : goal.invariant-loop-symbol
invariant-loop-symbol l = has_symbol (symbols_of l.symbols.items) l.name l.arity ≡ has_symbol (symbols_of (drop l.symbol-index l.symbols.items)) l.name l.arity

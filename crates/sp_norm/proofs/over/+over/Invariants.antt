use Rattle.std.proofs.Common.{◌≡◌, drop, map}
use Rattle.sp_fact.specs.GroundView.{grounds_of, symbol_of}
use Rattle.sp_norm.specs.Over.{all_over}
use Rattle.sp_norm.proofs.over.+over.Given as goal

abbrev pub invariant-trees_over-loop-term : goal.invariant-trees_over-loop-term
invariant-trees_over-loop-term l = all_over (map symbol_of l.symbols.items) (grounds_of l.terms.items) ≡ all_over (map symbol_of l.symbols.items) (grounds_of (drop l.term-index l.term-items))

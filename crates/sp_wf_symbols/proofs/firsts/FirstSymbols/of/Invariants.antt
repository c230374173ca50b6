use Rattle.std.proofs.Common.{◌≡◌, ℕ, List, map, drop}
use denote.Ref.{Bor}
use Rattle.std.specs.Option.{option_or}
use Rattle.sp_fact.specs.GroundView.{symbol_of}
use Rattle.sp_wf_symbols.specs.Firsts.{first_in, first_named}
use Rattle.sp_wf_symbols.proofs.firsts.FirstSymbols.of.Given as goal

abbrev pub invariant-loop-symbol : goal.invariant-loop-symbol
invariant-loop-symbol l =
    (name : Bor (List ℕ)) → option_or (first_in l.firsts name) (first_named name.now (map symbol_of (drop l.symbol-index l.symbols.items))) ≡ first_named name.now (map symbol_of l.symbols.items)

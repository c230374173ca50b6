use Rattle.std.proofs.Common.{◌≡◌, drop, map}
use Rattle.sp_fact.specs.GroundView.{grounds_of, symbol_of}
use Rattle.sp_transfer.specs.Absorbing.{absorbed_parts}
use Rattle.sp_transfer.specs.View.{chain_of, log_in}
use Rattle.sp_transfer.proofs.learning.+absorb.Given as goal

abbrev pub invariant-absorb_parts-loop-part : goal.invariant-absorb_parts-loop-part
invariant-absorb_parts-loop-part l =
    let symbols = map symbol_of l.symbols.items in
    absorbed_parts symbols (chain_of l.chain) (grounds_of (drop l.part-index l.part-items)) (log_in l.entries.items)
    ≡ absorbed_parts symbols (chain_of l.chain) (grounds_of l.parts.items) (log_in l.fn.entries.items)

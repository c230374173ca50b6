use Rattle.std.proofs.Common.{◌≡◌, ◌++◌, drop, map}
use Rattle.sp_spec.specs.Destruction.{destructions, destructions_by}
use Rattle.sp_fact.specs.GroundView.{equation_of, signature_of, symbol_of}
use Rattle.sp_destruct.specs.View.{destruction_of}
use Rattle.sp_destruct.proofs.destruction.chains_of.Given as goal

abbrev pub invariant-loop-equation : goal.invariant-loop-equation
invariant-loop-equation l =
    map destruction_of l.found.items ++ destructions_by (map symbol_of l.signature.symbols.items) (map equation_of (drop l.equation-index l.equation-items))
    ≡ destructions (signature_of l.signature)

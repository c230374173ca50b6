use Rattle.std.proofs.Common.{◌≡◌, map, take}
use Rattle.sp_fact.specs.GroundView.{symbol_of}
use Rattle.sp_spec_text.specs.Declared.{resolved_equation}
use Rattle.sp_written.specs.Views as view
use Rattle.sp_resolved.proofs.text.equations.Given as goal

abbrev pub invariant-loop-equation : goal.invariant-loop-equation
invariant-loop-equation l = map view.equation l.made.items ≡ map (resolved_equation (map symbol_of l.symbols.items)) (map view.equation (take l.equation-index l.equation-items))

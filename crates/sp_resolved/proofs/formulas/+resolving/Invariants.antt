use Rattle.std.proofs.Common.{◌≡◌, map, take}
use Rattle.sp_fact.specs.GroundView.{symbol_of}
use Rattle.sp_read_parts.specs.Formulas.{formula}
use Rattle.sp_spec_text.specs.Declared.{resolved_formula}
use Rattle.sp_resolved.specs.Names.{innermost_first}
use Rattle.sp_resolved.proofs.formulas.+resolving.Given as goal

abbrev pub invariant-formulas-loop-part : goal.invariant-formulas-loop-part
invariant-formulas-loop-part l =
    map formula l.made.items ≡ map (resolved_formula (map symbol_of l.symbols.items) (innermost_first l.bound.items)) (map formula (take l.part-index l.part-items))

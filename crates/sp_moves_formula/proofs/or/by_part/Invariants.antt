use Rattle.std.proofs.Common.{◌≡◌, ◌++◌, map, drop}
use Rattle.sp_formula.specs.FormulaView.{formula_of}
use Rattle.sp_system.specs.SystemView.{system_of}
use Rattle.sp_moves.specs.View.{case_of}
use Rattle.sp_moves_formula.specs.Parts.{by_parts}
use Rattle.sp_moves_formula.proofs.or.by_part.Given as goal

abbrev pub invariant-loop-part : goal.invariant-loop-part
invariant-loop-part l =
    map case_of l.made.items ++ by_parts (system_of l.system) l.position l.number (map formula_of (drop l.part-index l.part-items))
    ≡ by_parts (system_of l.system) l.position 1 (map formula_of l.parts.items)

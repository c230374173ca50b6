use Rattle.std.proofs.Common.{◌≡◌, map, drop}
use Rattle.sp_formula.specs.FormulaView.{atom_of}
use Rattle.sp_moves.specs.Times.{guard_has}
use Rattle.sp_moves.proofs.times.guard_has.Given as goal

abbrev pub invariant-loop-atom : goal.invariant-loop-atom
invariant-loop-atom l = guard_has l.time (map atom_of l.guard.items) ≡ guard_has l.time (map atom_of (drop l.atom-index l.atom-items))

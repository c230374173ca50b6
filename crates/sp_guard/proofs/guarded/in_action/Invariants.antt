use Rattle.std.proofs.Common.{◌≡◌, drop, map}
use Rattle.sp_formula.specs.FormulaView.{atom_of}
use Rattle.sp_law_guard.specs.IsGuarded as spec
use Rattle.sp_guard.proofs.guarded.in_action.Given as goal

abbrev pub invariant-loop-atom : goal.invariant-loop-atom
invariant-loop-atom l = spec.in_action l.place (map atom_of l.guard.items) ≡ spec.in_action l.place (map atom_of (drop l.atom-index l.atom-items))

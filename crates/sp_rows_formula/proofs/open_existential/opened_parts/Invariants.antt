use Rattle.std.proofs.Common.{◌≡◌, take, map}
use Rattle.sp_spec.specs.Guarded.{holds}
use Rattle.sp_spec.specs.Change.{atom_changed}
use Rattle.sp_formula.specs.FormulaView.{atom_of, formula_of}
use Rattle.sp_rows_formula.specs.OpeningView.{change_of}
use Rattle.sp_rows_formula.proofs.open_existential.opened_parts.Given as goal

abbrev pub invariant-loop-atom : goal.invariant-loop-atom
invariant-loop-atom l = map formula_of l.made.items ≡ map (λ a. holds (atom_changed (change_of l.variables) a)) (map atom_of (take l.atom-index l.atom-items))

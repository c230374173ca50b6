use Rattle.std.proofs.Common.{◌≡◌, take, map}
use Rattle.sp_spec.specs.Change.{atom_changed}
use Rattle.sp_formula.specs.FormulaView.{atom_of}
use Rattle.sp_rows_formula.specs.InsideView.{inside_of}
use Rattle.sp_rows_formula.specs.OpeningView.{change_of}
use Rattle.sp_rows_formula.proofs.opening.Values.atoms_inside.Given as goal

abbrev pub invariant-loop-atom : goal.invariant-loop-atom
invariant-loop-atom l = map atom_of l.made.items ≡ map (atom_changed (inside_of l.inside (change_of l.self))) (map atom_of (take l.atom-index l.atom-items))

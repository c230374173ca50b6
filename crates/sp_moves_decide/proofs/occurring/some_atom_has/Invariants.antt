use Rattle.std.proofs.Common.{◌≡◌, drop, map}
use Rattle.std.specs.List.{list_any}
use Rattle.sp_formula.specs.FormulaView.{atom_of}
use Rattle.sp_moves_decide.specs.Sought.{atom_has}
use Rattle.sp_moves_decide.specs.SoughtView.{sought_of}
use Rattle.sp_moves_decide.proofs.occurring.some_atom_has.Given as goal

abbrev pub invariant-loop-atom : goal.invariant-loop-atom
invariant-loop-atom l =
    list_any (atom_has (sought_of l.sought)) (map atom_of l.atoms.items)
    ≡ list_any (atom_has (sought_of l.sought)) (map atom_of (drop l.atom-index l.atom-items))

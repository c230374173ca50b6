use Rattle.std.proofs.Common.{◌≡◌, drop, map}
use Rattle.sp_term.specs.Bindings.{bindings}
use Rattle.sp_formula.specs.FormulaView.{atom_of}
use Rattle.sp_formula.specs.Staying.{all_so, atom_stays}
use Rattle.sp_formula.proofs.staying.atoms_stay.Given as goal

abbrev pub invariant-loop-atom : goal.invariant-loop-atom
invariant-loop-atom l =
    all_so (atom_stays (bindings l.subst) l.small l.large) (map atom_of l.atoms.items)
    ≡ all_so (atom_stays (bindings l.subst) l.small l.large) (map atom_of (drop l.atom-index l.atom-items))

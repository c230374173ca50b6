use Rattle.std.proofs.Common.{◌≡◌, drop, map}
use Rattle.sp_formula.specs.FormulaView.{atom_of}
use Rattle.sp_formula.specs.Fingerprint.{mixed_each, atom_print}
use Rattle.sp_formula.proofs.fingerprint.mixed_atoms.Given as goal

abbrev pub invariant-loop-atom : goal.invariant-loop-atom
invariant-loop-atom l = mixed_each atom_print l.made (map atom_of (drop l.atom-index l.atom-items)) ≡ mixed_each atom_print l.fn.print (map atom_of l.atom-items)

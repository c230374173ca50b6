use Rattle.std.proofs.Common.{◌≡◌, take, map}
use Rattle.sp_spec.specs.Substitution.{bound_to}
use Rattle.sp_term.specs.Bindings.{bindings}
use Rattle.sp_spec.specs.Change.{atom_changed, free_change}
use Rattle.sp_spec.specs.Change.{time_replaced}
use Rattle.sp_formula.specs.FormulaView.{atom_of}
use Rattle.sp_formula.proofs.formula.changed_atoms.Given as goal

abbrev pub invariant-loop-atom : goal.invariant-loop-atom
invariant-loop-atom l =
    map atom_of l.made.items ≡ map (atom_changed (free_change (bound_to (bindings l.subst)) (time_replaced l.small l.large))) (map atom_of (take l.atom-index l.atom-items))

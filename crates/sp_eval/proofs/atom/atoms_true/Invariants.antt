use Rattle.std.proofs.Common.{◌≡◌, map, drop}
use Rattle.sp_law_decide.specs.Deciding as deciding
use Rattle.sp_law_decide.specs.Deciding.{assignment_of}
use Rattle.sp_formula.specs.FormulaView.{atom_of}
use Rattle.sp_fact.specs.GroundView.{trace_of}
use Rattle.sp_eval.specs.View.{environment_of}
use Rattle.sp_eval.proofs.atom.atoms_true.Given as goal

abbrev pub invariant-loop-atom : goal.invariant-loop-atom
invariant-loop-atom l =
    deciding.atoms_true (trace_of l.trace) (assignment_of (environment_of l.env)) (map atom_of l.atoms.items)
    ≡ deciding.atoms_true (trace_of l.trace) (assignment_of (environment_of l.env)) (map atom_of (drop l.atom-index l.atom-items))

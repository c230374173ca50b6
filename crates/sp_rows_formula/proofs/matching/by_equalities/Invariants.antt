use Rattle.std.proofs.Common.{◌≡◌, map, drop}
use Rattle.sp_formula.specs.FormulaView.{atom_of}
use Rattle.sp_spec_formula.specs.Instances as spec
use Rattle.sp_rows_formula.specs.SlotsView.{messages_of}
use Rattle.sp_rows_formula.proofs.matching.by_equalities.Given as goal

abbrev pub invariant-loop-atom : goal.invariant-loop-atom
invariant-loop-atom l =
    spec.by_equalities (messages_of l.fn.messages) (map atom_of l.guard.items)
    ≡ spec.by_equalities (messages_of l.messages) (map atom_of (drop l.atom-index l.atom-items))

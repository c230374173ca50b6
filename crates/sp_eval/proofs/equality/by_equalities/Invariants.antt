use Rattle.std.proofs.Common.{◌≡◌, map, drop}
use Rattle.sp_law_decide.specs.Deciding as deciding
use Rattle.sp_formula.specs.FormulaView.{atom_of}
use Rattle.sp_eval.specs.View.{messages_of}
use Rattle.sp_eval.proofs.equality.by_equalities.Given as goal

abbrev pub invariant-loop-atom : goal.invariant-loop-atom
invariant-loop-atom l =
    deciding.by_equalities (map atom_of (drop l.atom-index l.atom-items)) (messages_of l.messages)
    ≡ deciding.by_equalities (map atom_of l.guard.items) (messages_of l.fn.messages)

use Rattle.std.proofs.Common.{◌≡◌, ◌+◌, drop, map}
use Rattle.sp_spec.specs.Change.{opened, opening}
use Rattle.sp_formula.specs.FormulaView.{binder_of}
use Rattle.sp_rows_formula.specs.OpeningView.{change_of}
use Rattle.sp_rows_formula.proofs.opening.NewVariables.of.Given as goal

abbrev pub invariant-loop-binder : goal.invariant-loop-binder
invariant-loop-binder l =
    (opening (map binder_of l.binders.items) l.next ≡ opened (map binder_of (drop l.binder-index l.binder-items)) l.made.next (change_of l.made.values))
    × (l.made.next ≡ l.next + l.binder-index)

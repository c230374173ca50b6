use Rattle.std.proofs.Common.{◌≡◌, drop, map}
use Rattle.sp_spec.specs.Change.{Change, under}
use Rattle.sp_formula.specs.FormulaView.{binder_of}
use Rattle.sp_rows_formula.specs.InsideView.{inside_of}
use Rattle.sp_rows_formula.proofs.inside.Inside.under.Given as goal

abbrev pub invariant-loop-binder : goal.invariant-loop-binder
invariant-loop-binder l =
    (c : Change) → under (map binder_of l.binders.items) (inside_of l.fn.self c) ≡ under (map binder_of (drop l.binder-index l.binder-items)) (inside_of l.made c)

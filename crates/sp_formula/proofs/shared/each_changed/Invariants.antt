use Rattle.std.proofs.Common.{◌≡◌, take, map}
use Rattle.sp_spec.specs.Substitution.{bound_to}
use Rattle.sp_spec.specs.Change.{changed, free_change, time_replaced}
use Rattle.sp_term.specs.Bindings.{bindings}
use Rattle.sp_formula.specs.FormulaView.{formula_of}
use Rattle.sp_formula.proofs.shared.each_changed.Given as goal

abbrev pub invariant-loop-formula : goal.invariant-loop-formula
invariant-loop-formula l =
    map formula_of l.made.items ≡ map (changed (free_change (bound_to (bindings l.subst)) (time_replaced l.small l.large))) (map formula_of (take l.formula-index l.formula-items))

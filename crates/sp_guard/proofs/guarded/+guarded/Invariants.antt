use Rattle.std.proofs.Common.{◌≡◌, drop, map}
use Rattle.sp_spec.specs.Guarded.{guardeds_of}
use Rattle.sp_formula.specs.FormulaView.{formula_of}
use Rattle.sp_law_guard.specs.IsGuarded.{are_guarded}
use Rattle.sp_guard.proofs.guarded.+guarded.Given as goal

abbrev pub invariant-are_guarded-loop-part : goal.invariant-are_guarded-loop-part
invariant-are_guarded-loop-part l = are_guarded (guardeds_of (map formula_of l.parts.items)) ≡ are_guarded (guardeds_of (map formula_of (drop l.part-index l.part-items)))

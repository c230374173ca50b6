use Rattle.std.proofs.Common.{◌≡◌, map, drop}
use Rattle.sp_spec_system.specs.Move.{Context, or}
use Rattle.sp_system.specs.SystemView.{system_of}
use Rattle.sp_formula.specs.FormulaView.{formula_of}
use Rattle.sp_spec_proof.specs.Choice.{first_instance}
use Rattle.sp_spec_proof.specs.Kinds.{at_each_formula, places_from}
use Rattle.sp_step.proofs.choose.first_disjunction.Given as goal

abbrev pub invariant-loop-place : goal.invariant-loop-place
invariant-loop-place l = (context : Context) →
    first_instance context (system_of l.system) (map or (places_from l.place (map formula_of (drop l.place l.system.formulas.items))))
    ≡ first_instance context (system_of l.system) (at_each_formula or context (system_of l.system))

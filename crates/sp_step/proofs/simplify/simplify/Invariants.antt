use Rattle.std.proofs.Common.{◌≡◌, ◌-◌, true, false}
use Rattle.sp_system.specs.SystemView.{system_of}
use Rattle.sp_spec_graph.specs.ReducibleEvent.{has_reducible}
use Rattle.sp_spec_proof.specs.Rows.{simplified, simplified_by}
use Rattle.sp_step.specs.View.{rules_of}
use Rattle.sp_step.proofs.simplify.simplify.Given as goal

abbrev pub invariant-loop-turns : goal.invariant-loop-turns
invariant-loop-turns l =
    (simplified (rules_of l.rules) (system_of l.fn.system) ≡ simplified_by (rules_of l.rules) (10000 - l.turns) (system_of l.system))
    × (l.irreducible ≡ true → has_reducible (rules_of l.rules).signature.equations (system_of l.system).events ≡ false)

use Rattle.std.proofs.Common.{◌≡◌, map, drop}
use Rattle.sp_spec_system.specs.Move.{Context, premise}
use Rattle.sp_fact.specs.View.{fact_of}
use Rattle.sp_system.specs.SystemView.{system_of}
use Rattle.sp_spec_proof.specs.Choice.{first_instance}
use Rattle.sp_spec_proof.specs.Kinds.{places_from}
use Rattle.sp_step.proofs.events.first_among.Given as goal

abbrev pub invariant-loop-place : goal.invariant-loop-place
invariant-loop-place l = (context : Context) →
    first_instance context (system_of l.system) (map (premise l.time) (places_from l.place (map fact_of (drop l.place l.premises.items))))
    ≡ first_instance context (system_of l.system) (map (premise l.time) (places_from 0 (map fact_of l.premises.items)))

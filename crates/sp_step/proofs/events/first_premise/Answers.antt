use Rattle.std.proofs.Common.{List, map, ap, ◌∙◌}
use Rattle.sp_spec.specs.Term.{Variable}
use Rattle.sp_spec.specs.Rule.{Fact}
use Rattle.sp_spec_system.specs.Move.{premise}
use Rattle.sp_system.specs.SystemView.{system_of}
use Rattle.sp_spec_proof.specs.Choice.{first_instance}
use Rattle.sp_spec_proof.specs.Kinds.{places_from}
use Rattle.sp_step.proofs.events.first_premise.Goals as goal

pub returns : goal.returns
returns c context =
    c.first_among.ensures context
    ∙ ap (λ (fs : List (Fact Variable)). first_instance context (system_of c.args.system.now) (map (premise c.args.event.now.time) (places_from 0 fs))) c.premises.ensures

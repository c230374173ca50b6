use Rattle.std.proofs.Common.{List, ap, ◌∙◌}
use Rattle.sp_spec_system.specs.Move.{Move}
use Rattle.sp_system.specs.SystemView.{system_of}
use Rattle.sp_spec_proof.specs.Choice.{first_instance}
use Rattle.sp_step.specs.View.{context_of}
use Rattle.sp_step.proofs.EventMoves.{at_one}
use Rattle.sp_step.proofs.events.first_of_one_kind.Goals as goal

pub returns : goal.returns
returns c =
    let context = context_of c.args.context.now in
    let s = system_of c.args.system.now in
    c.in_ok-chosen.ensures ∙ ap (λ (moves : List Move). first_instance context s moves) (at_one c.args.kind s.events)

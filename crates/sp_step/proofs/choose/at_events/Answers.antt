use Rattle.std.proofs.Common.{Bool, sym, ap, ◌∙◌}
use Rattle.sp_system.specs.SystemView.{system_of}
use Rattle.sp_spec_system.specs.Picked.{first_some}
use Rattle.sp_spec_proof.specs.Choice.{picked}
use Rattle.sp_spec_proof.specs.Kinds.{event_pickers}
use Rattle.sp_step.specs.View.{context_of}
use Rattle.sp_step.proofs.Choosing.{one_by_one_are, consecutive_are}
use Rattle.sp_step.proofs.choose.at_events.Goals as goal

pub returns-in_ok-chosen : goal.returns-in_ok-chosen
returns-in_ok-chosen c =
    let context = context_of c.args.context.now in
    let s = system_of c.args.system.now in
    c.in_ok-chosen.ensures ∙ consecutive_are context s ∙ ap (λ (b : Bool). first_some (picked context s) (event_pickers b)) (sym c.if-context.true)

pub returns-in_ok-chosen-2 : goal.returns-in_ok-chosen-2
returns-in_ok-chosen-2 c =
    let context = context_of c.args.context.now in
    let s = system_of c.args.system.now in
    c.in_ok-chosen-2.ensures ∙ one_by_one_are context s ∙ ap (λ (b : Bool). first_some (picked context s) (event_pickers b)) (sym c.if-context.false)

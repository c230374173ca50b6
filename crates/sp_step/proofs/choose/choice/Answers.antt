use Rattle.std.proofs.Common.{◌≡◌, None, refl, sym, ap, ◌∙◌}
use Rattle.std.specs.Prelude.{option_map}
use Rattle.sp_system.specs.SystemView.{system_of}
use Rattle.sp_step.specs.View.{context_of}
use Rattle.sp_spec_system.specs.Picked.{first_some}
use Rattle.sp_spec_proof.specs.Choice.{picked}
use Rattle.sp_spec_proof.specs.Kinds.{first_pickers}
use Rattle.sp_step.specs.Choosing.{ranked_of}
use Rattle.sp_step.proofs.Choosing.{chosen_first, chosen_by_kinds, chosen_last}
use Rattle.sp_step.proofs.choose.choice.Goals as goal

pub returns-in-Some : goal.returns-in-Some
returns-in-Some c =
    chosen_first (context_of c.args.context.now) (system_of c.args.system.now) (ranked_of c.in-Some.chosen)
    (sym (ap (option_map ranked_of) c.in-Some.is) ∙ c.in_ok-chosen.ensures)

pub returns-in-Some-2 : goal.returns-in-Some-2
returns-in-Some-2 c =
    let context = context_of c.args.context.now in
    let s = system_of c.args.system.now in
    let none : None ≡ first_some (picked context s) (first_pickers context.root) = sym (ap (option_map ranked_of) c.in_default.is) ∙ c.in_ok-chosen.ensures in
    chosen_by_kinds context s (ranked_of c.in-Some-2.chosen) none (sym (ap (option_map ranked_of) c.in-Some-2.is) ∙ c.in_ok-chosen-2.ensures)

pub returns : goal.returns
returns c =
    let context = context_of c.args.context.now in
    let s = system_of c.args.system.now in
    let none : None ≡ first_some (picked context s) (first_pickers context.root) = sym (ap (option_map ranked_of) c.in_default.is) ∙ c.in_ok-chosen.ensures in
    c.last_of_all.ensures ∙ chosen_last context s refl none (sym (ap (option_map ranked_of) c.in_default-2.is) ∙ c.in_ok-chosen-2.ensures)

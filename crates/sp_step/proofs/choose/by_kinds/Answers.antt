use Rattle.std.proofs.Common.{sym, ap, ◌∙◌}
use Rattle.std.specs.Prelude.{option_map}
use Rattle.sp_system.specs.SystemView.{system_of}
use Rattle.sp_step.specs.View.{context_of}
use Rattle.sp_step.specs.Choosing.{ranked_of}
use Rattle.sp_step.proofs.Choosing.{answered_first, answered_at_events, answered_behind}
use Rattle.sp_step.proofs.choose.by_kinds.Goals as goal

pub returns-in-Some : goal.returns-in-Some
returns-in-Some c =
    answered_first (context_of c.args.context.now) (system_of c.args.system.now) (ranked_of c.in-Some.chosen)
    (sym (ap (option_map ranked_of) c.in-Some.is) ∙ c.in_ok-chosen.ensures)

pub returns-in-Some-2 : goal.returns-in-Some-2
returns-in-Some-2 c =
    answered_at_events (context_of c.args.context.now) (system_of c.args.system.now) (ranked_of c.in-Some-2.chosen)
    (sym (ap (option_map ranked_of) c.in_default.is) ∙ c.in_ok-chosen.ensures)
    (sym (ap (option_map ranked_of) c.in-Some-2.is) ∙ c.in_ok-chosen-2.ensures)

pub returns : goal.returns
returns c =
    c.in_ok-chosen-3.ensures
    ∙ answered_behind (context_of c.args.context.now) (system_of c.args.system.now)
    (sym (ap (option_map ranked_of) c.in_default.is) ∙ c.in_ok-chosen.ensures)
    (sym (ap (option_map ranked_of) c.in_default-2.is) ∙ c.in_ok-chosen-2.ensures)

use Rattle.std.proofs.Common.{◌∙◌, is_some, sym, ap}
use Rattle.sp_fact.specs.GroundView.{ground_of}
use Rattle.sp_learn.specs.View.{how_of}
use Rattle.sp_transfer.specs.View.{log_in}
use Rattle.sp_transfer.proofs.Entries.{learnt_some, mapped_some}
use Rattle.sp_transfer.proofs.learning.is_learnt.Goals as goal

pub returns : goal.returns
returns c =
    let log = log_in c.args.entries.now.items in
    c.is_some.ensures ∙ sym (mapped_some (λ h. how_of h.now) c.way_learnt.result) ∙ ap is_some c.way_learnt.ensures
    ∙ sym (learnt_some log (ground_of c.args.message.now))

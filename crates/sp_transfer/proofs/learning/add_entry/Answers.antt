use Rattle.std.proofs.Common.{◌∙◌, ap}
use Rattle.sp_transfer.specs.View.{log_in}
use Rattle.sp_transfer.proofs.Entries.{log_push}
use Rattle.sp_transfer.proofs.learning.add_entry.Goals as goal

pub returns : goal.returns
returns c = ap log_in c.in_ok-push.ensures.items ∙ log_push c.args.entries.now.items c.args.entry

use Rattle.std.proofs.Common.{sym, ◌∙◌}
use Rattle.sp_system.specs.SystemView.{system_of}
use Rattle.sp_undecided.proofs.Instances.{of_told_times}
use Rattle.sp_undecided.proofs.times.first_told_comparison.Goals as goal

pub returns : goal.returns
returns c context = c.in_ok-chosen.ensures ∙ sym (of_told_times context (system_of c.args.system.now))

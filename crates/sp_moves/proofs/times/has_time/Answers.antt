use Rattle.std.proofs.Common.{sym, ◌∙◌}
use Rattle.sp_system.specs.SystemView.{system_of}
use Rattle.sp_moves.proofs.Occurring.{each_part}
use Rattle.sp_moves.proofs.times.has_time.Goals as goal

pub returns : goal.returns
returns c = c.some_part_has.ensures ∙ sym (each_part c.args.time (system_of c.args.system.now))

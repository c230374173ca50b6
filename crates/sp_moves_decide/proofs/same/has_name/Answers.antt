use Rattle.std.proofs.Common.{map, sym, ◌∙◌}
use Rattle.sp_term.specs.View.{name_of}
use Rattle.sp_system.specs.SystemView.{system_of}
use Rattle.sp_moves_decide.proofs.Standing.{one_of_names}
use Rattle.sp_moves_decide.proofs.same.has_name.Goals as goal

pub returns : goal.returns
returns c = c.is_found.ensures ∙ sym (one_of_names (name_of c.args.name.now) (map name_of c.args.constants.now.items) (system_of c.args.system.now))

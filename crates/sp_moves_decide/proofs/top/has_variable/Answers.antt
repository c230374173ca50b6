use Rattle.std.proofs.Common.{sym, ◌∙◌}
use Rattle.sp_term.specs.View.{sort_of}
use Rattle.sp_spec_formula.specs.Top.{of_number}
use Rattle.sp_system.specs.SystemView.{system_of}
use Rattle.sp_moves_decide.proofs.Standing.{variable_there}
use Rattle.sp_moves_decide.proofs.top.has_variable.Goals as goal

pub returns : goal.returns
returns c = c.system_has.ensures ∙ sym (variable_there (of_number (sort_of c.args.sort) c.args.number) (system_of c.args.system.now))

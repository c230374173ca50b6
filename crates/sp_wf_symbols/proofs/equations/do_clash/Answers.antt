use Rattle.std.proofs.Common.{◌∙◌}
use Rattle.sp_term.specs.Bindings.{bindings}
use Rattle.sp_fact.specs.GroundView.{equation_of}
use Rattle.sp_wf_symbols.proofs.EquationForms.{some_clash}
use Rattle.sp_wf_symbols.proofs.equations.do_clash.Goals as goal

pub returns : goal.returns
returns c = c.is_some-stands.ensures ∙ some_clash (equation_of c.args.first.now) (equation_of c.args.second.now) bindings c.in_ok-found.found c.in_ok-found.ensures

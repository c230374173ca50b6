use Rattle.std.proofs.Common.{map, sym, ap, ◌∙◌}
use Rattle.sp_term.specs.View.{name_of}
use Rattle.sp_fact.specs.GroundView.{equation_of}
use Rattle.sp_conv.specs.Tests.{is_destructor}
use Rattle.sp_finding.proofs.Counted.{counted}
use Rattle.sp_finding.proofs.terms.is_destructor_over.Goals as goal

pub returns : goal.returns
returns c =
    c.is_destructor.ensures
    ∙ ap (is_destructor (map equation_of c.args.equations.now.items) (name_of c.args.symbol.now)) (c.len.ensures ∙ (c.args.terms.now.ok.0 ∙ sym (counted c.args.terms.now.items)))

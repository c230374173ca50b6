use Rattle.std.proofs.Common.{not, map, sym, ap, ◌∙◌}
use Rattle.sp_term.specs.View.{name_of, variable_of}
use Rattle.sp_term.proofs.Lists.{count-view_all}
use Rattle.sp_fact.specs.GroundView.{equation_of}
use Rattle.sp_conv.specs.Tests.{is_destructor}
use Rattle.sp_conv.proofs.form.is_constructor.Goals as goal

pub returns : goal.returns
returns c =
    ap not c.is_destructor.ensures
    ∙ ap (λ n. not (is_destructor (map equation_of c.args.equations.now.items) (name_of c.args.name.now) n))
    (c.len.ensures ∙ (c.args.terms.now.ok.0 ∙ sym (count-view_all variable_of c.args.terms.now.items)))

use Rattle.std.proofs.Common.{map, sym, ap, ◌∙◌}
use Rattle.sp_spec.specs.Destruction.{is_public}
use Rattle.sp_term.specs.View.{name_of, variable_of}
use Rattle.sp_term.proofs.Lists.{count-view_all}
use Rattle.sp_fact.specs.GroundView.{symbol_of}
use Rattle.sp_moves_know.proofs.know.is_public_over.Goals as goal

pub returns : goal.returns
returns c =
    c.may_apply.ensures
    ∙ ap (is_public (map symbol_of c.args.symbols.now.items) (name_of c.args.symbol.now))
    (c.len.ensures ∙ (c.args.terms.now.ok.0 ∙ sym (count-view_all variable_of c.args.terms.now.items)))

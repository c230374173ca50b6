use Rattle.std.proofs.Common.{sym, ◌∙◌}
use Rattle.sp_conv.proofs.Terms.{many_counted}
use Rattle.sp_conv.proofs.form.are_as_many.Goals as goal

pub returns-then-not-no_terms : goal.returns-then-not-no_terms
returns-then-not-no_terms c = many_counted c.args.terms.now.items c.args.count c.len.result (c.len.ensures ∙ c.args.terms.now.ok.0) (sym c.if-not-no_terms.ensures)

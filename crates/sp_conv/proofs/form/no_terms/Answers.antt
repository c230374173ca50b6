use Rattle.std.proofs.Common.{◌∙◌}
use Rattle.sp_conv.proofs.Terms.{none_counted}
use Rattle.sp_conv.proofs.form.no_terms.Goals as goal

pub returns : goal.returns
returns c = c.is_empty.ensures ∙ none_counted c.args.terms.now.items _ c.args.terms.now.ok.0

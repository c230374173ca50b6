use Rattle.std.proofs.Common.{sym, ◌∙◌}
use Rattle.sp_spec.proofs.Lists.{length_map}
use Rattle.sp_fact.specs.View.{declared_of, rule_of}
use Rattle.sp_variant.proofs.Starts.{started}
use Rattle.sp_variant.proofs.forms.start.Goals as goal

pub returns : goal.returns
returns c =
    started (rule_of c.args.rule.now) c.len.result c.in_ok-premises.premises c.in_ok-actions.actions c.in_ok-conclusions.conclusions c.in_ok-behind.behind c.in_ok-all.all c.in_ok-number.number
    (c.len.ensures ∙ c.args.rule.now.variables.ok.0 ∙ sym (length_map declared_of c.args.rule.now.variables.items))
    c.in_ok-premises.ensures c.in_ok-actions.ensures c.in_ok-conclusions.ensures c.in_ok-behind.ensures c.in_ok-all.ensures c.in_ok-number.ensures

use Rattle.std.proofs.Common.{map, take, ◌+◌, sym, ◌∙◌}
use Rattle.sp_spec.specs.Rule as spec
use Rattle.sp_spec.proofs.Lists.{map-map}
use Rattle.sp_term.proofs.Loops.{one_more}
use Rattle.sp_fact.specs.View.{rule_of}
use Rattle.sp_fact.specs.GroundView.{equation_of}
use Rattle.sp_spec_forms.specs.Forms.{RuleForms, forms_of}
use Rattle.sp_book.specs.View.{rule_forms_of}
use Rattle.sp_variant.proofs.book.book.Goals as goal

pub loop-rule-preserved : goal.loop-rule-preserved
loop-rule-preserved c =
    let of_rule : spec.Rule → RuleForms = forms_of (map equation_of c.args.equations.now.items) in
    let rules = c.deref-rule-items.result.now in
    one_more rule_forms_of (λ r. of_rule (rule_of r)) c.loop-rule.made.items c.push.new.self.items rules c.loop-rule.rule-index c.in_ok-rule_forms.field-0 c.rule-item.result
    (c.loop-rule.invariant ∙ map-map rule_of of_rule (take c.loop-rule.rule-index rules)) c.in_ok-push.ensures.items c.loop-rule-test.true c.rule-item.is c.in_ok-rule_forms.ensures
    ∙ sym (map-map rule_of of_rule (take (c.loop-rule.rule-index + 1) rules))

use Rattle.sp_rule_forms.proofs.One.{lists_are_one_lem}
use Rattle.sp_rule_forms.proofs.lists_are_one.Goals as goal

pub returns : goal.returns
returns c = lists_are_one_lem

use Rattle.sp_law_equal.proofs.SubtermRules.{subterm_rules_have_normal_forms}
use Rattle.sp_law_equal.proofs.normal_forms_decide.Goals as goal

pub returns : goal.returns
returns c = record { each = λ es rules. subterm_rules_have_normal_forms es rules }

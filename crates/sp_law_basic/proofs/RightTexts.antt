-- What a text gives whose rules have no findings.
use Rattle.std.proofs.Common.{◌≡◌, false, map}
use Rattle.sp_spec.specs.Lists.{Every, Distinct}
use Rattle.sp_spec.specs.Theory.{signature_of}
use Rattle.sp_spec.specs.Written.{WrittenRule, WrittenTheory, theory_of}
use Rattle.sp_spec.specs.Findings.{rule_is_wrong}
use Rattle.sp_spec.proofs.Lists.{every_weaken}
use Rattle.sp_law_equal.specs.Right.{KeepPublic}
use Rattle.sp_law_equal.specs.NormalForms.{HasNormalForms}
use Rattle.sp_law_equal.specs.RightTheory.{HasNormalInstances, TakesFreshNames, MakesNoFr, LeavesReserved, BindsActions, BindsConclusions, IsRightTheory}
use Rattle.sp_law_run.proofs.Written.{rules_right}
use Rattle.sp_law_basic.specs.BasicTheory.{IsBasicRule}
use Rattle.sp_law_basic.specs.Laws.{TextsAreRight}
use Rattle.sp_law_basic.proofs.BasicOver.{basic_rules_over}
use Rattle.sp_law_basic.proofs.PlainRules.{premises_plain}
use Rattle.sp_law_basic.proofs.ClosedRules.{IsRightRule, each_right}

pub normal_instances : (t : WrittenTheory) → HasNormalForms (signature_of (theory_of t)) → Every (IsBasicRule (signature_of (theory_of t))) t.rules → HasNormalInstances (theory_of t)
normal_instances t forms basic = record {
  forms = forms;
  over = basic_rules_over (signature_of (theory_of t)) t.rules basic;
  premises = premises_plain (signature_of (theory_of t)) t.rules basic;
}

pub right_text : (t : WrittenTheory) → HasNormalForms (signature_of (theory_of t)) → KeepPublic (signature_of (theory_of t)).symbols (signature_of (theory_of t)).equations → Every (IsBasicRule (signature_of (theory_of t))) t.rules → Every (λ (r : WrittenRule). rule_is_wrong r ≡ false) t.rules
    → Distinct (map (λ (r : WrittenRule). r.name) t.rules) → IsRightTheory (theory_of t)
right_text t forms keeps basic right names =
    let each = each_right (signature_of (theory_of t)) t.rules basic right in
    let rules = (theory_of t).rules in
    record {
      instances = normal_instances t forms basic;
      declared = rules_right t.rules names;
      takes_fresh = every_weaken IsRightRule TakesFreshNames (λ r h. h.fresh) rules each;
      makes_no_fr = every_weaken IsRightRule MakesNoFr (λ r h. h.makes_no_fr) rules each;
      reserved = every_weaken IsRightRule LeavesReserved (λ r h. h.reserved) rules each;
      bound = every_weaken IsRightRule BindsConclusions (λ r h. h.bound) rules each;
      bound_actions = every_weaken IsRightRule BindsActions (λ r h. h.bound_actions) rules each;
      keeps_public = keeps;
    }

pub texts_are_right_lem : TextsAreRight
texts_are_right_lem = record { right = right_text }

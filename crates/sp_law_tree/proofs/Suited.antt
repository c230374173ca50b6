-- What covering takes of a text whose rules have no findings, and of a right theory.
use Rattle.std.proofs.Common.{◌≡◌, false}
use Rattle.sp_spec.specs.Lists.{Every}
use Rattle.sp_spec.proofs.Lists.{every_weaken}
use Rattle.sp_spec.specs.Theory.{Theory, signature_of}
use Rattle.sp_spec.specs.Written.{WrittenRule, WrittenTheory, theory_of}
use Rattle.sp_spec.specs.Findings.{rule_is_wrong}
use Rattle.sp_law_equal.specs.NormalForms.{HasNormalForms}
use Rattle.sp_law_equal.specs.RightTheory.{TakesFreshNames, LeavesReserved, BindsActions, BindsConclusions, IsRightTheory}
use Rattle.sp_law_basic.specs.BasicTheory.{IsBasicRule}
use Rattle.sp_law_basic.proofs.ClosedRules.{IsRightRule, each_right}
use Rattle.sp_law_basic.proofs.RightTexts.{normal_instances}
use Rattle.sp_law_system.specs.Rules.{SuitsProofs}
use Rattle.sp_law_tree.specs.Laws.{RightTheoriesSuit}

-- the rules of a text suit proofs
pub text_suits : (t : WrittenTheory) → HasNormalForms (signature_of (theory_of t)) → Every (IsBasicRule (signature_of (theory_of t))) t.rules
    → Every (λ (r : WrittenRule). rule_is_wrong r ≡ false) t.rules → SuitsProofs (theory_of t)
text_suits t forms basic right =
    let each = each_right (signature_of (theory_of t)) t.rules basic right in
    let rules = (theory_of t).rules in
    record {
      instances = normal_instances t forms basic;
      fresh = every_weaken IsRightRule TakesFreshNames (λ r h. h.fresh) rules each;
      reserved = every_weaken IsRightRule LeavesReserved (λ r h. h.reserved) rules each;
      bound = every_weaken IsRightRule BindsConclusions (λ r h. h.bound) rules each;
      shown = every_weaken IsRightRule BindsActions (λ r h. h.bound_actions) rules each;
    }

-- so do those of a right theory
right_suits : (theory : Theory) → IsRightTheory theory → SuitsProofs theory
right_suits theory right = record {
  instances = right.instances;
  fresh = right.takes_fresh;
  reserved = right.reserved;
  bound = right.bound;
  shown = right.bound_actions;
}

pub right_theories_suit_lem : RightTheoriesSuit
right_theories_suit_lem = record { suits = right_suits }

-- What is right of basic theories.
use Rattle.std.specs.Prelude.{◌≡◌, false, map}
use Rattle.sp_spec.specs.Theory.{signature_of}
use Rattle.sp_spec.specs.Lists.{Every, Distinct}
use Rattle.sp_spec.specs.Written.{WrittenRule, WrittenTheory, theory_of}
use Rattle.sp_spec.specs.Findings.{rule_is_wrong}
use Rattle.sp_law_equal.specs.NormalForms.{HasNormalForms}
use Rattle.sp_law_equal.specs.Right.{KeepPublic}
use Rattle.sp_law_equal.specs.RightTheory.{IsRightTheory}
use Rattle.sp_law_basic.specs.BasicTheory.{IsBasicRule}

-- What a text gives whose terms have normal forms, whose equations keep to what is public, and whose rules have no findings and names of their own: its
-- theory is right.
pub record TextsAreRight : Type 0 where
  pub right : (theory : WrittenTheory) → HasNormalForms (signature_of (theory_of theory)) → KeepPublic (signature_of (theory_of theory)).symbols (signature_of (theory_of theory)).equations → Every (IsBasicRule (signature_of (theory_of theory))) theory.rules → Every (λ (r : WrittenRule). rule_is_wrong r ≡ false) theory.rules
      → Distinct (map (λ (r : WrittenRule). r.name) theory.rules) → IsRightTheory (theory_of theory)

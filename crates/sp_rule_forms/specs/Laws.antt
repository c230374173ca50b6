-- Of a text whose rules' forms are listed one thing is answered.
use Rattle.std.specs.Prelude.{◌≡◌, ℕ, List}
use Rattle.sp_place.specs.Refused.{IsRefusedAt}
use Rattle.sp_pose.specs.Problem.{IsReported}
use Rattle.sp_rule_forms.specs.Variants.{IsListed}

pub record ListsAreOne : Type 0 where
  pub one : (text written other : List ℕ) → IsListed text written → IsListed text other → written ≡ other
  pub refused_or_listed : (text written : List ℕ) (place : ℕ) → IsRefusedAt text place → IsListed text written → ⊥
  pub reported_or_listed : (text lines written : List ℕ) → IsReported text lines → IsListed text written → ⊥

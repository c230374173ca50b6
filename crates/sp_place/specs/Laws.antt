-- A text is refused at one place.
use Rattle.std.specs.Prelude.{◌≡◌, ℕ, List}
use Rattle.sp_place.specs.Refused.{IsRefusedAt}

pub record RefusalsAreOne : Type 0 where
  pub one : (text : List ℕ) (p q : ℕ) → IsRefusedAt text p → IsRefusedAt text q → p ≡ q

-- What stands behind a text that stands first.
use Rattle.std.proofs.Common.{◌≡◌, ℕ, List, ◌++◌, Some, None, Bor, MatchOption}
use Rattle.std.specs.Prelude.{Option}
use Rattle.sp_read_steps.specs.Reading.{NoPrefix}

pub stripped : (s p : List ℕ) (r : Option (Bor (List ℕ))) → MatchOption r ((rest : List ℕ) → s ≡ p ++ rest → ⊥) (λ x. s ≡ p ++ x.now) → MatchOption r (NoPrefix p s) (λ x. s ≡ p ++ x.now)
stripped s p None h = record { no_rest = h }
stripped s p (Some x) h = h

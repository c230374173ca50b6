-- The row of the last time, by the position of its formula: what is made the last one after a formula is spent may as well be made so before.
use Rattle.std.proofs.Common.{◌≡◌, ℕ, [], Option, Some, None, option_map, option_and_then, length, refl, sym, ap, ◌∙◌}
use Rattle.sp_spec_system.specs.System.{System}
use Rattle.sp_spec_system.specs.Formulas.{Found, first_formula, spending}
use Rattle.sp_spec_formula.specs.Equate.{equal_times}
use Rattle.sp_spec_formula.specs.Last.{Ending, is_last, before_last, ending_of, made_last, ended_by, sets_last}
use Rattle.sp_system.specs.SpendView.{spending_at}
use Rattle.sp_rows_formula.specs.LastView.{instead, ended, ended_at}
use Rattle.sp_rows_formula.specs.RowsView.{position_of}
use Rattle.sp_rows_formula.proofs.Positions.{spends, joined, joins}
use Rattle.sp_rows_formula.proofs.Spent.{as_many, equated_spent}

module _ (s : System) where
  by_ending : (r : Found Ending) (e : Ending) → ended_by s r e ≡ ended e (spending s r (instead e))
  by_ending r (is_last i) = refl
  by_ending r (before_last i j) = refl

  ended_found : Found Ending → Option System
  ended_found r = ended r.picked (spending s r (instead r.picked))

  by_found : (o : Option (Found Ending)) → option_and_then (λ r. ended_by s r r.picked) o ≡ option_and_then ended_found o
  unfolding ended_found
  by_found None = refl
  by_found (Some r) = by_ending r r.picked

  pub sets_last-there : sets_last s ≡ option_and_then (λ p. ended_at s p.0 p.1) (position_of (ending_of s.last) s.formulas)
  unfolding ended_found
  sets_last-there =
      by_found (first_formula (ending_of s.last) s.formulas)
      ∙ sym (joins ended_found (first_formula (ending_of s.last) s.formulas))
      ∙ ap joined (spends (ending_of s.last) instead (λ t e. ended e t) s)
      ∙ joins (λ (p : ℕ × Ending). ended_at s p.0 p.1) (position_of (ending_of s.last) s.formulas)

  pub last_spent : (k i : ℕ) → ended_at s k (is_last i) ≡ option_map (λ t. spending_at t k []) (made_last s.last i s)
  last_spent k i = at s.last
    where
      at : (known : Option ℕ) → made_last known i (spending_at s k []) ≡ option_map (λ t. spending_at t k []) (made_last known i s)
      at None = refl
      at (Some j) = equated_spent s k (equal_times i j)

  -- it has so many formulas as before
  pub many_last : (i : ℕ) (t : System) → made_last s.last i s ≡ Some t → length t.formulas ≡ length s.formulas
  many_last i t e = at s.last e
    where
      at : (known : Option ℕ) → made_last known i s ≡ Some t → length t.formulas ≡ length s.formulas
      at None h = let same : t.formulas ≡ s.formulas = cc in ap length same
      at (Some j) h = as_many s (equal_times i j) t h

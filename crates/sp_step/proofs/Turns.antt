-- Simplification, turn by turn.
use Rattle.std.proofs.Common.{◌≡◌, ℕ, suc, Bool, true, false, Option, Some, None, refl, ap, ◌∙◌}
use Rattle.sp_spec_system.specs.System.{System}
use Rattle.sp_spec_system.specs.Rules.{Rules}
use Rattle.sp_spec_proof.specs.Rows.{is_contradictory, by_rows, rows, goes_on, simplified_by}
use Rattle.sp_step.specs.SimplifyView.{unless, turned}

ends_so : (b : Bool) (o : Option System) (again : System → System) (s : System) → unless b o ≡ None → goes_on b o again s ≡ s
ends_so true o again s e = refl
ends_so false None again s e = refl
ends_so false (Some t) again s e = absurd cc

goes_so : (b : Bool) (o : Option System) (again : System → System) (s t : System) → unless b o ≡ Some t → goes_on b o again s ≡ again t
goes_so true o again s t e = absurd cc
goes_so false None again s t e = absurd cc
goes_so false (Some u) again s t e = let q : u ≡ t = cc in ap again q

pub no_turns : (rules : Rules) (n : ℕ) (s : System) → n ≡ 0 → simplified_by rules n s ≡ s
unfolding simplified_by
no_turns rules n s e = ap (λ (k : ℕ). simplified_by rules k s) e

pub last_turn : (rules : Rules) (n m : ℕ) (s : System) → n ≡ suc m → turned rules s ≡ None → simplified_by rules n s ≡ s
unfolding simplified_by
last_turn rules n m s e d = ap (λ (k : ℕ). simplified_by rules k s) e ∙ ends_so (is_contradictory rules s) (by_rows rules rows s) (simplified_by rules m) s d

pub one_turn : (rules : Rules) (n m : ℕ) (s t : System) → n ≡ suc m → turned rules s ≡ Some t → simplified_by rules n s ≡ simplified_by rules m t
unfolding simplified_by
one_turn rules n m s t e d = ap (λ (k : ℕ). simplified_by rules k s) e ∙ goes_so (is_contradictory rules s) (by_rows rules rows s) (simplified_by rules m) s t d

-- The move on two names, by what is asked first and what is asked of their terms.
use Rattle.std.proofs.Common.{◌≡◌, ℕ, Bool, true, false, not, ◌&&◌, if◌then◌else◌, List, Some, None, refl}
use Rattle.sp_spec_system.specs.System.{System}
use Rattle.sp_spec_system.specs.Move.{Side, Case}
use Rattle.sp_spec_formula.specs.Sides.{side_term, are_in_order, stands_there, are_apart, same_cases}
use Rattle.sp_moves_decide.specs.Open.{are_there, each_way, open_cases}

by_tests : (o p q r : Bool) (cs : List Case) → (if o && (p && (q && not r)) then Some cs else None) ≡ (if o && (p && q) then (if r then None else Some cs) else None)
by_tests false p q r cs = refl
by_tests true false q r cs = refl
by_tests true true false r cs = refl
by_tests true true true false cs = refl
by_tests true true true true cs = refl

pub parted : (constants : List (List ℕ)) (s : System) (a b : Side)
    → same_cases constants s a b ≡ (if are_there constants s a b then open_cases s (side_term a) (side_term b) else None)
parted constants s a b =
    by_tests (are_in_order a b) (stands_there constants s a) (stands_there constants s b) (are_apart s.unequal (side_term a) (side_term b)) (each_way s (side_term a) (side_term b))

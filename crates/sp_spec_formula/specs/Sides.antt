-- The move on two terms that stand for names of one sort: they are the same, or they differ. Source: this project's own (in CSF 2012 names are told apart by equations alone).
use Rattle.std.specs.Prelude.{ℕ, Bool, true, false, not, ◌&&◌, ◌||◌, nat_lt, if◌then◌else◌, List, [], ◌∷◌, ◌++◌, Option, Some, None, codes}
use Rattle.std.specs.List.{list_any}
use Rattle.sp_spec.specs.Term.{Fresh, Pub, Variable, Term, var, constant}
use Rattle.sp_spec.specs.Same.{alike}
use Rattle.sp_spec.specs.Guarded.{same, holds}
use Rattle.sp_spec.specs.Change.{placed}
use Rattle.sp_spec.specs.Unifier.{Pair}
use Rattle.sp_spec.specs.Lists.{is_listed}
use Rattle.sp_spec_system.specs.System.{System, with_unequal}
use Rattle.sp_spec_system.specs.Occurring.{names_of}
use Rattle.sp_spec_system.specs.Move.{Side, fresh_side, public_side, constant_side, Case}
use Rattle.sp_spec_formula.specs.Instantiate.{with_formula}
use Rattle.sp_spec_formula.specs.Top.{of_number, has_variable}

abbrev pub side_term : Side → Term Variable
side_term (fresh_side k) = var (of_number Fresh k)
side_term (public_side k) = var (of_number Pub k)
side_term (constant_side c) = constant c

-- of one sort, a variable first, and of two variables that of the lower number
abbrev pub are_in_order : Side → Side → Bool
are_in_order (fresh_side i) (fresh_side j) = nat_lt i j
are_in_order (public_side i) (public_side j) = nat_lt i j
are_in_order (public_side i) (constant_side c) = true
are_in_order a b = false

-- variables are the system's, and public names the theory's or the system's
abbrev pub stands_there : List (List ℕ) → System → Side → Bool
stands_there constants s (fresh_side k) = has_variable s (of_number Fresh k)
stands_there constants s (public_side k) = has_variable s (of_number Pub k)
stands_there constants s (constant_side c) = is_listed c (constants ++ names_of s)

-- they are an unequal pair, in either order
abbrev pub are_apart : List Pair → Term Variable → Term Variable → Bool
are_apart unequal t u = list_any (λ (p : Pair). alike p.0 t && alike p.1 u || alike p.0 u && alike p.1 t) unequal

abbrev pub is_undecided : List (List ℕ) → System → Side → Side → Bool
is_undecided constants s a b =
    are_in_order a b && (stands_there constants s a && (stands_there constants s b && not (are_apart s.unequal (side_term a) (side_term b))))

abbrev pub same_cases : List (List ℕ) → System → Side → Side → Option (List Case)
same_cases constants s a b =
    if is_undecided constants s a b then Some (
    record { name = codes "same"; system = with_formula s (holds (same (placed (side_term a)) (placed (side_term b)))) }
    ∷ record { name = codes "unequal"; system = with_unequal s (s.unequal ++ (side_term a, side_term b) ∷ []) } ∷ [])
    else None

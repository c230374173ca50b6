-- The parts of a disjunction that stands at a position, as lists.
use Rattle.std.specs.Prelude.{ℕ, suc, List, [], ◌∷◌, ◌++◌, Option, Some, None, codes, decimal}
use Rattle.sp_spec.specs.Guarded.{Guarded, one_of, parts_of}
use Rattle.sp_spec_system.specs.System.{System}
use Rattle.sp_spec_system.specs.Move.{Case}
use Rattle.sp_system.specs.SpendView.{spending_at}

abbrev pub disjuncts : Guarded → Option (List Guarded)
disjuncts (one_of fs) = Some (parts_of fs)
disjuncts f = None

-- a case for each of the parts, numbered from here on
abbrev pub by_parts : System → ℕ → ℕ → List Guarded → List Case
by_parts s p k [] = []
by_parts s p k (f ∷ fs) = record { name = codes "case_" ++ decimal k; system = spending_at s p (f ∷ []) } ∷ by_parts s p (suc k) fs

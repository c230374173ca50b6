-- The cases of an induction, each with its formulas alone.
use Rattle.std.specs.Prelude.{ℕ, Bool, List}
use Rattle.sp_spec.specs.Guarded.{Guarded}
use Rattle.sp_spec_system.specs.System.{formulas_alone, with_closed}
use Rattle.sp_spec_system.specs.Move.{Case}

-- the case of this name
abbrev pub named_alone : List ℕ → List Guarded → Bool → Case
named_alone name fs closed = record { name = name; system = with_closed (formulas_alone fs) closed }

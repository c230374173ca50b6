-- A formula that is spent, by its position.
use Rattle.std.specs.Prelude.{ℕ, suc, List, ◌++◌, take, drop}
use Rattle.sp_spec.specs.Guarded.{Guarded}
use Rattle.sp_spec_system.specs.System.{System}

-- the formula at this position is spent, and these stand in its place
abbrev pub spending_at : System → ℕ → List Guarded → System
spending_at s k fs = record s { formulas = take k s.formulas ++ (fs ++ drop (suc k) s.formulas); spent = s.spent ++ take 1 (drop k s.formulas) }

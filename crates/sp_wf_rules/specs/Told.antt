-- Variables that stand in facts, as the code looks for them.
use Rattle.std.specs.Prelude.{ℕ, Bool, false, ◌||◌, List, [], ◌∷◌}
use Rattle.sp_spec.specs.Rule.{Fact}
use Rattle.sp_spec.specs.Formula.{Written}
use Rattle.sp_spec.specs.Written.{in_terms}
use Rattle.sp_spec.specs.Findings.{is_named}

-- a variable of this name stands in one of the facts
abbrev pub stands_among : List ℕ → List (Fact Written) → Bool
stands_among x [] = false
stands_among x (f ∷ fs) = is_named x (in_terms f.args) || stands_among x fs

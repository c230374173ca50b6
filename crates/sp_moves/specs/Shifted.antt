-- The variables of a rule, over new numbers.
use Rattle.std.specs.Prelude.{ℕ, ◌+◌}
use Rattle.sp_spec.specs.Term.{Variable, Term, var}

-- a rule's variable, of a number from next on
abbrev pub shifted : ℕ → Variable → Term Variable
shifted next x = var (record { sort = x.sort; number = next + x.number })

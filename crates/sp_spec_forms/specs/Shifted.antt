-- Terms over other variables, so that two terms have none in common. Source: Baader and Nipkow, "Term Rewriting and All That", chapter 6 (renaming
-- apart).
use Rattle.std.specs.Prelude.{ℕ, suc, ◌+◌}
use Rattle.sp_spec.specs.Term.{Variable, Term, var, constant, name, app, Terms, none, more, valued}

-- a number above that of each variable
abbrev mutual
  pub above : Term Variable → ℕ
  above (var x) = suc x.number
  above (constant c) = 0
  above (name n) = 0
  above (app f ts) = above_all ts

  pub above_all : Terms Variable → ℕ
  above_all none = 0
  above_all (more t ts) = above t + above_all ts

-- the term over variables with numbers from n on
abbrev pub shifted : ℕ → Term Variable → Term Variable
shifted n t = valued (λ x. var (record { sort = x.sort; number = n + x.number })) t

-- A system over other numbers, the parts of one system beside those of another, and a time of the one made one with a time of the other. Source: Schmidt's
-- thesis, chapter 3 (renaming apart); Meier's thesis, chapter 3 (precomputed case distinctions).
use Rattle.std.specs.Prelude.{ℕ, ◌+◌, ◌++◌, Option}
use Rattle.sp_spec.specs.Term.{Variable, var}
use Rattle.sp_spec_system.specs.System.{System, with_next}
use Rattle.sp_spec_system.specs.Equating.{system_changed}
use Rattle.sp_spec_system.specs.MakingOne.{made_one}

abbrev pub raised_variable : ℕ → Variable → Variable
raised_variable n x = record { sort = x.sort; number = n + x.number }

-- all of its variables and times are raised by as much
abbrev pub renamed_from : ℕ → System → System
renamed_from n s = with_next (system_changed (λ x. var (raised_variable n x)) (λ i. n + i) s) (n + s.next)

-- The parts of the second stand behind those of the first; what is said of the last time, and whether it is closed, is that of the first. (The numbers of the
-- second are to reach no lower than the next one of the first.)
abbrev pub together : System → System → System
together s t = record s {
  events = s.events ++ t.events;
  formulas = s.formulas ++ t.formulas;
  spent = s.spent ++ t.spent;
  unequal = s.unequal ++ t.unequal;
  links = s.links ++ t.links;
  order = s.order ++ t.order;
  next = t.next;
}

-- The case's numbers are raised by the system's next one, so that its first time gets that number; and this time is made one with the
-- other. None where the events at them can't be one.
abbrev pub joined_at : System → System → ℕ → Option System
joined_at s c i = made_one (together s (renamed_from s.next c)) (i, s.next)

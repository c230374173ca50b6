-- Values for two systems at once: those of the one keep their numbers, those of the other are raised. This project's own.
use Rattle.std.specs.Prelude.{ℕ, ◌-◌, if◌then◌else◌, nat_lt}
use Rattle.sp_spec_system.specs.Solutions.{Valuation}

-- the first's values below the limit, and from it on the second's
abbrev pub extended : ℕ → Valuation → Valuation → Valuation
extended n v w = record {
  terms = λ x. if nat_lt x.number n then v.terms x else w.terms (record { sort = x.sort; number = x.number - n });
  times = λ i. if nat_lt i n then v.times i else w.times (i - n);
}

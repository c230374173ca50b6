-- What stands for places under binders that are inside what is opened.
use Rattle.std.specs.Prelude.{ℕ, zero, suc}
use Rattle.sp_spec.specs.Term.{var}
use Rattle.sp_spec.specs.Guarded.{bound, bound_time, Binder, message, time, pushed}
use Rattle.sp_spec.specs.Change.{Change, raised, raised_time, under_message, under_time}
use Rattle.sp_rows_formula.specs.declared.inside.Inside.{Inside}

-- the n innermost places stay, and what stands beyond them is raised n times
abbrev pub lifted : {A : Type 0} → (ℕ → A) → (A → A) → ℕ → (ℕ → A) → ℕ → A
lifted place raise zero f = f
lifted place raise (suc n) f = pushed (place zero) (λ k. raise (lifted place raise n f k))

-- the change under so many binders
abbrev pub inside_of : Inside → Change → Change
inside_of i c = record {
  terms = c.terms;
  times = c.times;
  bound_terms = lifted (λ k. var (bound k)) raised i.messages c.bound_terms;
  bound_times = lifted bound_time raised_time i.times c.bound_times;
}

abbrev pub under_one : Binder → Change → Change
under_one (message sort) c = under_message c
under_one time c = under_time c

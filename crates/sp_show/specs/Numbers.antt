-- Names in what is printed whose numbers have an end: those of names in memory, which have 128 bits.
use Rattle.std.specs.Prelude.{ℕ, ◌<◌, ◌^◌, List}
use Rattle.sp_spec.specs.Lists.{Every}
use Rattle.sp_spec.specs.Term.{Names, public_name, fresh_name, Ground, Grounds, MadeOf, AllMadeOf}
use Rattle.sp_spec.specs.Execution.{Step, make_fresh, use_rule, take_out, put_in, know_public, make_own, apply_symbol}

-- a ground term has no variable of which something could hold
abbrev pub no_variable : ⊥ → Type 0
no_variable x = ⊥

-- the names in the term are such ones
abbrev pub HasNames : Names → Ground → Type 0
HasNames N t = MadeOf N no_variable t

abbrev pub HaveNames : Names → Grounds → Type 0
HaveNames N ts = AllMadeOf N no_variable ts

-- those in the values of the step are such ones
abbrev pub StepHasNames : Names → Step → Type 0
StepHasNames N (make_fresh t) = HasNames N t
StepHasNames N (use_rule r given) = Every (λ (g : List ℕ × Ground). HasNames N g.1) given
StepHasNames N (take_out t) = HasNames N t
StepHasNames N (put_in t) = HasNames N t
StepHasNames N (know_public t) = HasNames N t
StepHasNames N (make_own t) = HasNames N t
StepHasNames N (apply_symbol f ts) = HaveNames N ts

-- fresh names with numbers of 128 bits
abbrev pub numbered_names : Names
numbered_names (public_name c) = Unit {0}
numbered_names (fresh_name n) = n < 2 ^ 128

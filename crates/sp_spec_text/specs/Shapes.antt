-- What the parts of a text stand for.
use Rattle.std.specs.Prelude.{ℕ, Bool, List, [], ◌∷◌, map}
use Rattle.sp_spec.specs.Term.{Terms}
use Rattle.sp_spec.specs.Rule.{Fact, Action}
use Rattle.sp_spec.specs.Formula.{Mark, Written, Formula, for_all}
use Rattle.sp_spec.specs.Written.{WrittenRule}

abbrev pub written : List ℕ → Mark → Written
written w m = record { name = w; mark = m }

abbrev pub fact : List ℕ → Bool → Terms Written → Fact Written
fact w persistent args = record { symbol = w; persistent = persistent; args = args }

-- an exclamation mark at an action says nothing
abbrev pub action_of : Fact Written → Action Written
action_of f = record { symbol = f.symbol; args = f.args }

abbrev pub rule_of : List ℕ → List (Fact Written) → List (Fact Written) → List (Fact Written) → WrittenRule
rule_of w premises actions conclusions = record { name = w; facts = record { premises = premises; actions = map action_of actions; conclusions = conclusions } }

abbrev pub quantified : List Written → Formula → Formula
quantified [] f = f
quantified (v ∷ vs) f = for_all v (quantified vs f)

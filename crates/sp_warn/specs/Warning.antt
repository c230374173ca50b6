-- The warnings on a theory, in the order of their numbers, and the line that a report has for each. Source: Tamarin manual,
-- "Checking well-formedness"; the words are this project's own.
use Rattle.std.specs.Prelude.{ℕ, Bool, true, false, List, ◌∷◌, ◌++◌, codes, decimal}

pub data Warning : Type 0 where
  -- in a rule, a premise, by its name and the number of its arguments: nothing that rules make is like it
  no_source : List ℕ → List ℕ → ℕ → Warning
  -- in a formula, an action that no rule has
  in_no_rule : List ℕ → List ℕ → ℕ → Warning
  -- two public constants
  alike : List ℕ → List ℕ → Warning
  -- the facts of this name, or the actions, differ in how many arguments they have, or in whether they are persistent
  several_forms : List ℕ → Warning
  -- a lemma of this name is marked for induction, and says that there is a trace
  no_induction : List ℕ → Warning

unfoldable pub line : Warning → List ℕ
line (no_source r f n) = codes "warning: rule " ++ (r ++ (codes ": premise " ++ (f ++ (codes "/" ++ (decimal n ++ codes " has no source")))))
line (in_no_rule x f n) = codes "warning: formula " ++ (x ++ (codes ": action " ++ (f ++ (codes "/" ++ (decimal n ++ codes " in no rule")))))
line (alike a b) = codes "warning: public constants '" ++ (a ++ (codes "' and '" ++ (b ++ codes "' differ in case only")))
line (several_forms f) = codes "warning: fact " ++ (f ++ codes " has several arities or multiplicities")
line (no_induction x) = codes "warning: lemma " ++ (x ++ codes ": use_induction on exists-trace")

-- the warning first, where the condition holds
abbrev pub told : Bool → Warning → List Warning → List Warning
told true warning warnings = warning ∷ warnings
told false warning warnings = warnings

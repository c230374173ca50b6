-- The fatal findings on a theory, in the order of their numbers, and the line that a report has for each. Source: Tamarin manual,
-- "Checking well-formedness"; the words are this project's own.
use Rattle.std.specs.Prelude.{ℕ, Bool, true, false, if◌then◌else◌, List, [], ◌∷◌, ◌++◌, codes, decimal}
use Rattle.sp_spec.specs.Lists.{is_listed}

pub data Finding : Type 0 where
  -- the builtin isn't one of those that are known
  builtin_left_out : List ℕ → Finding
  -- a symbol of this name stands before with another arity, or is private where this one isn't
  declared_twice : List ℕ → Finding
  -- no symbol of this name has this arity
  unknown_symbol : List ℕ → ℕ → Finding
  -- a symbol, a fact or an action of this name has more than sixteen arguments
  arity_above : List ℕ → Finding
  -- an equation, by its number
  wrong_shape : ℕ → Finding
  private_constant : ℕ → Finding
  -- two equations
  clash : ℕ → ℕ → Finding
  -- two rules, or two restrictions or lemmas, have this name
  used_twice : List ℕ → Finding
  -- in a rule, a name that `let` binds twice
  bound_twice : List ℕ → List ℕ → Finding
  -- in a rule, a variable
  two_sorts : List ℕ → List ℕ → Finding
  -- in a rule, a fact
  reserved : List ℕ → List ℕ → Finding
  fr_argument : List ℕ → Finding
  -- in a rule
  destructor_in_premise : List ℕ → Finding
  -- in a rule, a variable that no premise binds
  in_no_premise : List ℕ → List ℕ → Finding
  -- in a formula, a variable that no quantifier binds
  without_binder : List ℕ → List ℕ → Finding
  not_guarded : List ℕ → List ℕ → Finding
  destructor_in_formula : List ℕ → Finding
  other_sort : List ℕ → List ℕ → Finding
  mixed_at : List ℕ → List ℕ → Finding
  -- a restriction names the action of learning
  restricts_learning : List ℕ → Finding
  -- of a lemma, an attribute that isn't one of those that are known
  attribute_left_out : List ℕ → List ℕ → Finding

unfoldable pub line : Finding → List ℕ
line (builtin_left_out b) = codes "fatal: builtin left out: " ++ b
line (declared_twice f) = codes "fatal: symbol " ++ (f ++ codes " declared twice")
line (unknown_symbol f n) = codes "fatal: unknown symbol " ++ (f ++ (codes "/" ++ decimal n))
line (wrong_shape k) = codes "fatal: equation " ++ (decimal k ++ codes ": shape")
line (private_constant k) = codes "fatal: equation " ++ (decimal k ++ codes ": private constant")
line (clash j k) = codes "fatal: equations " ++ (decimal j ++ (codes " and " ++ (decimal k ++ codes " clash")))
line (destructor_in_premise r) = codes "fatal: rule " ++ (r ++ codes ": destructor in a premise")
line (destructor_in_formula n) = codes "fatal: formula " ++ (n ++ codes ": destructor")
line (arity_above x) = codes "fatal: arity above 16: " ++ x
line (used_twice x) = codes "fatal: name " ++ (x ++ codes " used twice")
line (bound_twice r x) = codes "fatal: rule " ++ (r ++ (codes ": let name " ++ (x ++ codes " bound twice")))
line (two_sorts r x) = codes "fatal: rule " ++ (r ++ (codes ": variable " ++ (x ++ codes " has two sorts")))
line (reserved r f) = codes "fatal: rule " ++ (r ++ (codes ": reserved fact " ++ f))
line (fr_argument r) = codes "fatal: rule " ++ (r ++ codes ": Fr argument")
line (in_no_premise r x) = codes "fatal: rule " ++ (r ++ (codes ": variable " ++ (x ++ codes " not bound")))
line (without_binder n x) = codes "fatal: formula " ++ (n ++ (codes ": variable " ++ (x ++ codes " not bound")))
line (not_guarded n x) = codes "fatal: formula " ++ (n ++ (codes ": variable " ++ (x ++ codes " not guarded")))
line (other_sort n x) = codes "fatal: formula " ++ (n ++ (codes ": variable " ++ (x ++ codes " has another sort than its binder")))
line (mixed_at n x) = codes "fatal: formula " ++ (n ++ (codes ": time and message mixed at " ++ x))
line (restricts_learning n) = codes "fatal: restriction " ++ (n ++ codes " names KU")
line (attribute_left_out n a) = codes "fatal: lemma " ++ (n ++ (codes ": attribute left out: " ++ a))

-- the finding first, where the condition holds
abbrev pub told : Bool → Finding → List Finding → List Finding
told true finding findings = finding ∷ findings
told false finding findings = findings

abbrev pub are_none : List Finding → Bool
are_none [] = true
are_none (finding ∷ findings) = false

-- behind these lines those of the findings, each line once
abbrev pub lines_after : List (List ℕ) → List Finding → List (List ℕ)
lines_after lines [] = lines
lines_after lines (finding ∷ findings) = lines_after (if is_listed (line finding) lines then lines else lines ++ line finding ∷ []) findings

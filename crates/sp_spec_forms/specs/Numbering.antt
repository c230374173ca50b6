-- Facts with their variables numbered from 0 on, as they are first seen, so that facts that differ in names alone are the same.
use Rattle.std.specs.Prelude.{ℕ, suc, Bool, not, List, [], ◌∷◌, ◌++◌, length, if◌then◌else◌}
use Rattle.std.specs.List.{filter}
use Rattle.sp_spec.specs.Term.{Variable, Term, var, Terms, valued_all, in_terms}
use Rattle.sp_spec.specs.Same.{same_variable}
use Rattle.sp_spec.specs.Rule.{Facts, facts_at, occurrences}

-- Facts, with the terms that the rule's variables became. The variables of the facts are numbered below the count, those of these terms alone from
-- it on: they stand in no fact, so a step has none of them.
pub record Form : Type 0 where
  pub facts : Facts Variable
  pub count : ℕ
  pub kept : Terms Variable

-- the first of those that are the same
abbrev pub without_repeats : {A : Type 0} → (A → A → Bool) → List A → List A
without_repeats same [] = []
without_repeats same (x ∷ xs) = x ∷ filter (λ y. not (same x y)) (without_repeats same xs)

-- each variable once, as first seen in the facts, then in the kept terms
abbrev pub seen : Facts Variable → Terms Variable → List Variable
seen f kept = without_repeats same_variable (occurrences f ++ in_terms kept)

-- how many stand before it
abbrev pub place : List Variable → Variable → ℕ
place [] x = 0
place (y ∷ ys) x = if same_variable y x then 0 else suc (place ys x)

abbrev pub renumbered : List Variable → Variable → Term Variable
renumbered xs x = var (record { sort = x.sort; number = place xs x })

-- with the variables numbered as they are first seen
abbrev pub numbered : Facts Variable → Terms Variable → Form
numbered f kept =
    let xs = seen f kept in
    record { facts = facts_at (renumbered xs) f; count = length (without_repeats same_variable (occurrences f)); kept = valued_all (renumbered xs) kept }

-- What holds of the checking of learning logs.
use Rattle.std.specs.Prelude.{◌≡◌, ◌↔◌, ℕ, List, map, true}
use Rattle.sp_spec.specs.Lists.{newest_first}
use Rattle.sp_spec.specs.Theory.{Theory, signature_of}
use Rattle.sp_spec.specs.Log.{Entry, IsLog}
use Rattle.sp_spec_forms.specs.Forms.{forms_of}
use Rattle.sp_law_equal.specs.RightTheory.{HasNormalInstances}
use Rattle.sp_learn.specs.declared.check.Clause.{Clause}
use Rattle.sp_learn.specs.declared.check.Checked.{Checked}
use Rattle.sp_learn.specs.Checking.{is_log}
use Rattle.sp_learn.specs.Meaning.{IsFirstBroken, IsChecked}

-- Entries, the oldest first, pass the test exactly where they are a log.
pub record LogsAreChecked : Type 0 where
  pub each : (theory : Theory) → HasNormalInstances theory → (entries : List Entry)
      → (is_log (signature_of theory) (map (forms_of (signature_of theory).equations) theory.rules) entries ≡ true) ↔ IsLog theory (newest_first entries)

-- Of the same entries there is one answer: they are a log, or one entry of theirs is the first that breaks a clause, with one least clause.
pub record ChecksAreOne : Type 0 where
  pub answers : (theory : Theory) (entries : List Entry) (answer other : Checked) → IsChecked theory entries answer → IsChecked theory entries other → answer ≡ other
  pub faults : (theory : Theory) (entries : List Entry) (n m : ℕ) (clause other : Clause) → IsFirstBroken theory entries n clause
      → IsFirstBroken theory entries m other → (n ≡ m) × (clause ≡ other)
  pub excludes : (theory : Theory) (entries : List Entry) (n : ℕ) (clause : Clause) → IsFirstBroken theory entries n clause
      → IsLog theory (newest_first entries) → ⊥

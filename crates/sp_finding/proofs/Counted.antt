-- How many arguments a fact has.
use Rattle.std.proofs.Common.{arith, ◌≡◌, List, [], ◌∷◌, length, ℕ, false, refl, ap, sym, ◌∙◌, nat_eq, suc}
use Rattle.sp_spec.specs.Term.{var, constant, name, app, Terms, none, more, count}
use Rattle.sp_spec.specs.Formula.{Written}
use Rattle.sp_spec.specs.Findings.{is_one, is_fresh_variable}
use Rattle.sp_term.specs.declared.term.Term.{Term}
use Rattle.sp_read_parts.specs.declared.written.WrittenVariable.{WrittenVariable}
use Rattle.sp_read_parts.specs.Views.{terms}

-- as many as are listed
pub counted : (ts : List (Term WrittenVariable)) → count (terms ts) ≡ length ts
counted [] = refl
counted (t ∷ ts) = ap suc (counted ts)

more_than_one : (n : ℕ) → nat_eq (suc (suc n)) 1 ≡ false
more_than_one n = grind arith

pub one : (ts : List (Term WrittenVariable)) → is_one (terms ts) ≡ nat_eq (length ts) 1
one [] = refl
one (t ∷ []) = refl
one (t ∷ u ∷ ts) = sym (more_than_one (length ts))

-- with another number of arguments there is not the one
no_variable_counted : (ts : Terms Written) → (count ts ≡ 1 → ⊥) → is_fresh_variable ts ≡ false
no_variable_counted none h = refl
no_variable_counted (more t none) h = absurd (h refl)
no_variable_counted (more (var y) (more u ts)) h = refl
no_variable_counted (more (constant c) (more u ts)) h = refl
no_variable_counted (more (name n) (more u ts)) h = refl
no_variable_counted (more (app f xs) (more u ts)) h = refl

pub no_variable : (ts : List (Term WrittenVariable)) → (length ts ≡ 1 → ⊥) → is_fresh_variable (terms ts) ≡ false
no_variable ts h = no_variable_counted (terms ts) (λ e. h (sym (counted ts) ∙ e))

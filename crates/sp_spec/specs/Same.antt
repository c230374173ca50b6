-- Tests of equality, as an algorithm runs them.
use Rattle.std.specs.Prelude.{Bool, true, false, ◌&&◌, ◌||◌, ◌==◌}
use Rattle.std.specs.Str.{bytes_eq}
use Rattle.sp_spec.specs.Term.{Sort, Msg, Fresh, Pub, Variable, Term, var, constant, name, app, Terms, none, more, Ground, Grounds}

abbrev pub same_sort : Sort → Sort → Bool
same_sort Msg Msg = true
same_sort Fresh Fresh = true
same_sort Pub Pub = true
same_sort _ _ = false

abbrev pub same_variable : Variable → Variable → Bool
same_variable x y = same_sort x.sort y.sort && (x.number == y.number)

-- whether the terms are the same, where the test tells the same variables
abbrev mutual
  pub same_by : {V : Type 0} → (V → V → Bool) → Term V → Term V → Bool
  same_by test (var x) (var y) = test x y
  same_by test (constant c) (constant d) = bytes_eq c d
  same_by test (name m) (name n) = m == n
  same_by test (app f ts) (app g us) = bytes_eq f g && same_all_by test ts us
  same_by test _ _ = false

  pub same_all_by : {V : Type 0} → (V → V → Bool) → Terms V → Terms V → Bool
  same_all_by test none none = true
  same_all_by test (more t ts) (more u us) = same_by test t u && same_all_by test ts us
  same_all_by test _ _ = false

-- there are no variables to tell
abbrev pub no_test : ⊥ → ⊥ → Bool
no_test x y = true

abbrev pub same_term : Ground → Ground → Bool
same_term t u = same_by no_test t u

abbrev pub same_terms : Grounds → Grounds → Bool
same_terms ts us = same_all_by no_test ts us

-- terms of rules and systems
abbrev pub alike : Term Variable → Term Variable → Bool
alike t u = same_by same_variable t u

abbrev pub alike_all : Terms Variable → Terms Variable → Bool
alike_all ts us = same_all_by same_variable ts us

-- whether the first term is the second or stands in it
abbrev mutual
  pub is_part : Term Variable → Term Variable → Bool
  is_part r (app f ts) = alike r (app f ts) || is_part_of_one r ts
  is_part r t = alike r t

  pub is_part_of_one : Term Variable → Terms Variable → Bool
  is_part_of_one r none = false
  is_part_of_one r (more t ts) = is_part r t || is_part_of_one r ts

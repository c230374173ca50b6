-- The most general unifier of pairs of terms, by sorts. Source: CSF 2012, "Constraint solving" (unification of order-sorted
-- terms); Robinson's elimination of one variable after another.
use Rattle.std.specs.Prelude.{◌≡◌, ℕ, zero, suc, ◌+◌, List, [], ◌∷◌, Bool, true, false, not, ◌&&◌, ◌==◌, nat_lt, if◌then◌else◌, Option, Some, None}
use Rattle.std.specs.Str.{bytes_eq}
use Rattle.sp_spec.specs.Term.{Sort, Msg, Fresh, Pub, Variable, Term, var, constant, name, app, Terms, none, more, Values, valued, some_variable, some_variables}
use Rattle.sp_spec.specs.Same.{same_variable}
use Rattle.sp_spec.specs.Substitution.{Binding, bound_to, followed_by}

abbrev pub Pair : Type 0
Pair = Term Variable × Term Variable

-- each pair has one value
abbrev pub MakesSame : Values → List Pair → Type 0
MakesSame v [] = Unit {0}
MakesSame v (p ∷ pairs) = (valued v p.0 ≡ valued v p.1) × MakesSame v pairs

-- the first place where two terms differ: no values remove the difference, or those that bind the variable to the term
pub data Difference : Type 0 where
  no_difference : Difference
  clash : Difference
  binding : Variable → Term Variable → Difference

abbrev pub occurs : Variable → Term Variable → Bool
occurs x t = some_variable (same_variable x) t

abbrev pub occurs_in : Variable → Terms Variable → Bool
occurs_in x ts = some_variables (same_variable x) ts

-- a term that is no variable may stand for a variable of the sort
abbrev pub may_stand : Sort → Term Variable → Bool
may_stand Msg t = true
may_stand Fresh (name n) = true
may_stand Pub (constant c) = true
may_stand sort t = false

abbrev pub with_term : Variable → Term Variable → Difference
with_term x t = if may_stand x.sort t && not (occurs x t) then binding x t else clash

-- of one sort the larger number is replaced by the smaller, of two sorts the variable of sort msg
abbrev pub by_number : Variable → Variable → Difference
by_number x y = if nat_lt x.number y.number then binding y (var x) else binding x (var y)

abbrev pub by_sorts : Sort → Sort → Variable → Variable → Difference
by_sorts Msg Msg x y = by_number x y
by_sorts Fresh Fresh x y = by_number x y
by_sorts Pub Pub x y = by_number x y
by_sorts Msg sort x y = binding x (var y)
by_sorts sort Msg x y = binding y (var x)
by_sorts sort other x y = clash

abbrev pub with_variable : Variable → Variable → Difference
with_variable x y = if same_variable x y then no_difference else by_sorts x.sort y.sort x y

abbrev pub or_then : Difference → Difference → Difference
or_then no_difference d = d
or_then clash d = clash
or_then (binding x t) d = binding x t

abbrev mutual
  pub difference : Term Variable → Term Variable → Difference
  difference (var x) (var y) = with_variable x y
  difference (var x) u = with_term x u
  difference t (var y) = with_term y t
  difference (constant c) (constant d) = if bytes_eq c d then no_difference else clash
  difference (name m) (name n) = if m == n then no_difference else clash
  difference (app f ts) (app g us) = if bytes_eq f g then differences ts us else clash
  difference t u = clash

  pub differences : Terms Variable → Terms Variable → Difference
  differences none none = no_difference
  differences (more t ts) (more u us) = or_then (difference t u) (differences ts us)
  differences ts us = clash

-- that of the first pair that has one, under these bindings
abbrev pub first_difference : List Binding → List Pair → Difference
first_difference bs [] = no_difference
first_difference bs (p ∷ pairs) = or_then (difference (valued (bound_to bs) p.0) (valued (bound_to bs) p.1)) (first_difference bs pairs)

abbrev mutual
  pub occurrences : Term Variable → ℕ
  occurrences (var x) = 1
  occurrences (constant c) = 0
  occurrences (name n) = 0
  occurrences (app f ts) = occurrences_in ts

  pub occurrences_in : Terms Variable → ℕ
  occurrences_in none = 0
  occurrences_in (more t ts) = occurrences t + occurrences_in ts

abbrev pub occurrences_of : List Pair → ℕ
occurrences_of [] = 0
occurrences_of (p ∷ pairs) = occurrences p.0 + occurrences p.1 + occurrences_of pairs

abbrev pub go_on : Difference → List Binding → (List Binding → Option (List Binding)) → Option (List Binding)
go_on no_difference bs next = Some bs
go_on clash bs next = None
go_on (binding x t) bs next = next (followed_by bs ((x, t) ∷ []))

-- one variable is bound after the other, at most as often as the number says
abbrev pub unified : ℕ → List Pair → List Binding → Option (List Binding)
unified zero pairs bs = Some bs
unified (suc n) pairs bs = go_on (first_difference bs pairs) bs (λ cs. unified n pairs cs)

-- each binding takes a variable out of the pairs, so that this number is never used up
abbrev pub mgu : List Pair → Option (List Binding)
mgu pairs = unified (suc (occurrences_of pairs)) pairs []

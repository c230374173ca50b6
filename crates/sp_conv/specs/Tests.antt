-- Tests of equations by themselves, as an algorithm runs them.
use Rattle.std.specs.Prelude.{ℕ, Bool, true, false, not, ◌&&◌, ◌||◌, ◌==◌, List, [], ◌∷◌, codes}
use Rattle.std.specs.Bool.{beq}
use Rattle.std.specs.Str.{bytes_eq}
use Rattle.sp_spec.specs.Term.{Sort, Msg, Variable, Term, var, constant, name, app, Terms, none, more, count}
use Rattle.sp_spec.specs.Same.{is_part_of_one}
use Rattle.sp_spec.specs.Signature.{Symbol, Equation}

abbrev pub no_terms : Terms Variable → Bool
no_terms none = true
no_terms (more t ts) = false

-- one at least
abbrev pub are_as_many : ℕ → Terms Variable → Bool
are_as_many n ts = not (no_terms ts) && (count ts == n)

abbrev pub is_application : List ℕ → ℕ → Term Variable → Bool
is_application f n (app g ts) = are_as_many n ts && bytes_eq g f
is_application f n t = false

abbrev pub some_root : List Equation → List ℕ → ℕ → Bool
some_root [] f n = false
some_root (e ∷ es) f n = is_application f n e.left || some_root es f n

abbrev pub is_pair : List ℕ → Bool
is_pair f = bytes_eq f (codes "pair")

abbrev pub is_destructor : List Equation → List ℕ → ℕ → Bool
is_destructor es f n = not (is_pair f) && some_root es f n

abbrev pub is_constructor : List Equation → List ℕ → Terms Variable → Bool
is_constructor es f ts = not (is_destructor es f (count ts))

abbrev pub is_msg : Sort → Bool
is_msg Msg = true
is_msg s = false

abbrev mutual
  pub of_constructors : List Equation → Term Variable → Bool
  of_constructors es (var x) = is_msg x.sort
  of_constructors es (constant c) = false
  of_constructors es (name n) = false
  of_constructors es (app f ts) = is_constructor es f ts && all_of_constructors es ts

  pub all_of_constructors : List Equation → Terms Variable → Bool
  all_of_constructors es none = true
  all_of_constructors es (more t ts) = of_constructors es t && all_of_constructors es ts

abbrev pub is_root : List ℕ → Terms Variable → Bool
is_root d ts = not (no_terms ts) && not (is_pair d)

abbrev pub is_left_side : List Equation → Term Variable → Bool
is_left_side es (app d ts) = is_root d ts && all_of_constructors es ts
is_left_side es t = false

abbrev pub is_proper_part : Term Variable → Term Variable → Bool
is_proper_part r (app f ts) = is_part_of_one r ts
is_proper_part r t = false

abbrev pub names_constant : Symbol → Bool → List ℕ → Bool
names_constant s private c = bytes_eq s.name c && ((s.arity == 0) && beq s.private private)

abbrev pub has_constant : List Symbol → Bool → List ℕ → Bool
has_constant [] private c = false
has_constant (s ∷ symbols) private c = names_constant s private c || has_constant symbols private c

abbrev pub is_constant : List Symbol → Bool → Term Variable → Bool
is_constant symbols private (app c ts) = no_terms ts && has_constant symbols private c
is_constant symbols private t = false

abbrev pub have_form : List Equation → Equation → Bool
have_form es e = is_left_side es e.left && of_constructors es e.right

abbrev pub leads : List Symbol → Equation → Bool
leads symbols e = is_proper_part e.right e.left || is_constant symbols false e.right

-- the equation by itself is as it should be
abbrev pub is_well_formed : List Symbol → List Equation → Equation → Bool
is_well_formed symbols es e = have_form es e && leads symbols e

-- only that its right side is a constant that is private is wrong with it
abbrev pub has_private_constant : List Symbol → List Equation → Equation → Bool
has_private_constant symbols es e = have_form es e && (is_constant symbols true e.right && not (is_well_formed symbols es e))

-- What the tests of equations by themselves tell.
use Rattle.std.proofs.Common.{◌≡◌, ◌⊎◌, ℕ, Bool, true, false, not, ◌&&◌, ◌==◌, List, [], ◌∷◌, codes, ⊎_elim, inl, inr, refl, ap, ◌∙◌}
use Rattle.std.proofs.lemmas.Bool.{or_cases, or_left, or_right}
use Rattle.std.proofs.lemmas.Bool.Decides.{Decides-and, Decides-or, Decides-not, Decides-like, Decides-eqb}
use Rattle.std.proofs.lemmas.Slice.Eq.{bytes_eq-Decides}
use Rattle.std.specs.Bool.{Decides, beq}
use Rattle.std.specs.Cmp.{booleans_Decides}
use Rattle.std.specs.Str.{bytes_eq}
use Rattle.sp_spec.specs.Lists.{Member}
use Rattle.sp_spec.specs.Term.{Sort, Msg, Fresh, Pub, Variable, Term, var, constant, name, app, Terms, none, more, count}
use Rattle.sp_spec.specs.Same.{same_variable, alike, is_part, is_part_of_one}
use Rattle.sp_spec.specs.Signature.{Symbol, Equation}
use Rattle.sp_spec.proofs.Same.{same_variable_decides, same_by_decides}
use Rattle.sp_law_equal.specs.Parts.{IsPart, IsPartOfOne, IsProperPart}
use Rattle.sp_law_conv.specs.Accepted.{IsApplicationOf, IsDestructorOf, IsOfConstructors, AreOfConstructors, IsLeftSide, IsConstant, IsWellFormed, HasPrivateConstant}
use Rattle.sp_conv.specs.Tests.{is_application, some_root, is_pair, is_destructor, is_msg, of_constructors, all_of_constructors, is_left_side, is_proper_part, names_constant, has_constant, is_constant, have_form, leads, is_well_formed, has_private_constant}

never : Decides false ⊥
never = (λ e. absurd cc, λ h. absurd h)

-- ---- destructors

is_application_decides : (f : List ℕ) (n : ℕ) (t : Term Variable) → Decides (is_application f n t) (IsApplicationOf f n t)
is_application_decides f n (var x) = never
is_application_decides f n (constant c) = never
is_application_decides f n (name m) = never
is_application_decides f n (app g none) = never
is_application_decides f n (app g (more t ts)) =
    Decides-like ((count (more t ts) == n) && bytes_eq g f) (λ (h : (count (more t ts) ≡ n) × (g ≡ f)). (h.1, h.0)) (λ h. (h.1, h.0))
    (Decides-and (count (more t ts) == n) (bytes_eq g f) (Decides-eqb (count (more t ts)) n) (bytes_eq-Decides g f))

-- a left side that has the symbol at its root
abbrev Root : List Equation → List ℕ → ℕ → Type 0
Root es f n = (e : Equation) × Member e es × IsApplicationOf f n e.left

some_root_tells : (es : List Equation) (f : List ℕ) (n : ℕ) → some_root es f n ≡ true → Root es f n
some_root_tells [] f n h = absurd cc
some_root_tells (e ∷ es) f n h =
    ⊎_elim (λ k. (e, inl refl, (is_application_decides f n e.left).0 k)) (λ k. let r = some_root_tells es f n k in (r.0, inr r.1, r.2))
    (or_cases (is_application f n e.left) (some_root es f n) h)

pub some_root_from : (es : List Equation) (f : List ℕ) (n : ℕ) (e : Equation) → Member e es → is_application f n e.left ≡ true → some_root es f n ≡ true
some_root_from [] f n e m h = absurd m
some_root_from (d ∷ es) f n e (inl m) h = or_left (is_application f n d.left) (some_root es f n) (ap (λ (z : Equation). is_application f n z.left) m ∙ h)
some_root_from (d ∷ es) f n e (inr m) h = or_right (is_application f n d.left) (some_root es f n) (some_root_from es f n e m h)

some_root_decides : (es : List Equation) (f : List ℕ) (n : ℕ) → Decides (some_root es f n) (Root es f n)
some_root_decides es f n = (some_root_tells es f n, λ r. some_root_from es f n r.0 r.1 ((is_application_decides f n r.0.left).1 r.2))

no_pair_decides : (f : List ℕ) → Decides (not (is_pair f)) (f ≡ codes "pair" → ⊥)
no_pair_decides f = Decides-not (is_pair f) (bytes_eq-Decides f (codes "pair"))

is_destructor_decides : (es : List Equation) (f : List ℕ) (n : ℕ) → Decides (is_destructor es f n) (IsDestructorOf es f n)
is_destructor_decides es f n =
    Decides-like (is_destructor es f n) (λ (h : (f ≡ codes "pair" → ⊥) × Root es f n). record { equation = h.1.0; stands = h.1.1; at_root = h.1.2; no_pair = h.0 })
    (λ h. (h.no_pair, (h.equation, h.stands, h.at_root)))
    (Decides-and (not (is_pair f)) (some_root es f n) (no_pair_decides f) (some_root_decides es f n))

-- ---- terms of constructors, and left sides

is_msg_decides : (s : Sort) → Decides (is_msg s) (s ≡ Msg)
is_msg_decides Msg = (λ e. refl, λ h. refl)
is_msg_decides Fresh = (λ e. absurd cc, λ h. absurd cc)
is_msg_decides Pub = (λ e. absurd cc, λ h. absurd cc)

module _ (es : List Equation) where
  mutual
    of_constructors_decides : (t : Term Variable) → Decides (of_constructors es t) (IsOfConstructors es t)
    of_constructors_decides (var x) = is_msg_decides x.sort
    of_constructors_decides (constant c) = never
    of_constructors_decides (name n) = never
    of_constructors_decides (app f ts) =
        Decides-and (not (is_destructor es f (count ts))) (all_of_constructors es ts)
        (Decides-not (is_destructor es f (count ts)) (is_destructor_decides es f (count ts))) (all_of_constructors_decides ts)

    all_of_constructors_decides : (ts : Terms Variable) → Decides (all_of_constructors es ts) (AreOfConstructors es ts)
    all_of_constructors_decides none = (λ e. tt, λ h. refl)
    all_of_constructors_decides (more t ts) = Decides-and (of_constructors es t) (all_of_constructors es ts) (of_constructors_decides t) (all_of_constructors_decides ts)

  is_left_side_decides : (t : Term Variable) → Decides (is_left_side es t) (IsLeftSide es t)
  is_left_side_decides (var x) = never
  is_left_side_decides (constant c) = never
  is_left_side_decides (name n) = never
  is_left_side_decides (app d none) = never
  is_left_side_decides (app d (more t ts)) =
      Decides-and (not (is_pair d)) (all_of_constructors es (more t ts)) (no_pair_decides d) (all_of_constructors_decides (more t ts))

-- ---- parts

pub alike_decides : (t u : Term Variable) → Decides (alike t u) (t ≡ u)
alike_decides t u = same_by_decides same_variable same_variable_decides t u

module _ (r : Term Variable) where
  mutual
    is_part_decides : (t : Term Variable) → Decides (is_part r t) (IsPart r t)
    is_part_decides (var x) = alike_decides r (var x)
    is_part_decides (constant c) = alike_decides r (constant c)
    is_part_decides (name n) = alike_decides r (name n)
    is_part_decides (app f ts) = Decides-or (alike r (app f ts)) (is_part_of_one r ts) (alike_decides r (app f ts)) (is_part_of_one_decides ts)

    is_part_of_one_decides : (ts : Terms Variable) → Decides (is_part_of_one r ts) (IsPartOfOne r ts)
    is_part_of_one_decides none = never
    is_part_of_one_decides (more t ts) = Decides-or (is_part r t) (is_part_of_one r ts) (is_part_decides t) (is_part_of_one_decides ts)

  is_proper_part_decides : (t : Term Variable) → Decides (is_proper_part r t) (IsProperPart r t)
  is_proper_part_decides (var x) = never
  is_proper_part_decides (constant c) = never
  is_proper_part_decides (name n) = never
  is_proper_part_decides (app f ts) = is_part_of_one_decides ts

-- ---- constants

abbrev made : List ℕ → ℕ → Bool → Symbol
made c n private = record { name = c; arity = n; private = private }

same_symbol : (s : Symbol) (c : List ℕ) (private : Bool) → (s.name ≡ c) × ((s.arity ≡ 0) × (s.private ≡ private)) → s ≡ made c 0 private
same_symbol s c private h = ap (λ d. made d s.arity s.private) h.0 ∙ (ap (λ n. made c n s.private) h.1.0 ∙ ap (made c 0) h.1.1)

same_parts : (s : Symbol) (c : List ℕ) (private : Bool) → s ≡ made c 0 private → (s.name ≡ c) × ((s.arity ≡ 0) × (s.private ≡ private))
same_parts s c private e = (ap (λ (z : Symbol). z.name) e, (ap (λ (z : Symbol). z.arity) e, ap (λ (z : Symbol). z.private) e))

has_constant_decides : (symbols : List Symbol) (private : Bool) (c : List ℕ) → Decides (has_constant symbols private c) (Member (made c 0 private) symbols)
has_constant_decides [] private c = never
has_constant_decides (s ∷ symbols) private c =
    Decides-or (names_constant s private c) (has_constant symbols private c)
    (Decides-like (names_constant s private c) (same_symbol s c private) (same_parts s c private)
    (Decides-and (bytes_eq s.name c) ((s.arity == 0) && beq s.private private) (bytes_eq-Decides s.name c)
    (Decides-and (s.arity == 0) (beq s.private private) (Decides-eqb s.arity 0) (booleans_Decides s.private private))))
    (has_constant_decides symbols private c)

is_constant_decides : (symbols : List Symbol) (private : Bool) (t : Term Variable) → Decides (is_constant symbols private t) (IsConstant symbols private t)
is_constant_decides symbols private (var x) = never
is_constant_decides symbols private (constant c) = never
is_constant_decides symbols private (name n) = never
is_constant_decides symbols private (app c none) = has_constant_decides symbols private c
is_constant_decides symbols private (app c (more t ts)) = never

-- ---- equations

module _ (symbols : List Symbol) (es : List Equation) (e : Equation) where
  have_form_decides : Decides (have_form es e) (IsLeftSide es e.left × IsOfConstructors es e.right)
  have_form_decides = Decides-and (is_left_side es e.left) (of_constructors es e.right) (is_left_side_decides es e.left) (of_constructors_decides es e.right)

  pub is_well_formed_decides : Decides (is_well_formed symbols es e) (IsWellFormed symbols es e)
  is_well_formed_decides =
      Decides-like (is_well_formed symbols es e)
      (λ (h : (IsLeftSide es e.left × IsOfConstructors es e.right) × (IsProperPart e.right e.left ⊎ IsConstant symbols false e.right)).
      record { left = h.0.0; right = h.0.1; leads = h.1 })
      (λ w. ((w.left, w.right), w.leads))
      (Decides-and (have_form es e) (leads symbols e) have_form_decides
      (Decides-or (is_proper_part e.right e.left) (is_constant symbols false e.right) (is_proper_part_decides e.right e.left) (is_constant_decides symbols false e.right)))

  pub has_private_constant_decides : Decides (has_private_constant symbols es e) (HasPrivateConstant symbols es e)
  has_private_constant_decides =
      Decides-like (has_private_constant symbols es e)
      (λ (h : (IsLeftSide es e.left × IsOfConstructors es e.right) × (IsConstant symbols true e.right × (IsWellFormed symbols es e → ⊥))).
      record { left = h.0.0; right = h.0.1; private = h.1.0; wrong = h.1.1 })
      (λ w. ((w.left, w.right), (w.private, w.wrong)))
      (Decides-and (have_form es e) (is_constant symbols true e.right && not (is_well_formed symbols es e)) have_form_decides
      (Decides-and (is_constant symbols true e.right) (not (is_well_formed symbols es e)) (is_constant_decides symbols true e.right)
      (Decides-not (is_well_formed symbols es e) is_well_formed_decides)))

-- What the test tells of a left side and a term, over variables of sort msg and of any sort.
use Rattle.std.proofs.Common.{◌≡◌, true, List, [], Option, Some, None, is_some, refl, ap, ◌∙◌}
use Rattle.std.specs.Prelude.{unwrap_or}
use Rattle.sp_spec.specs.Term.{Sort, Msg, Fresh, Pub, Variable, Term, var, constant, name, app, valued, any_names, EachVariable}
use Rattle.sp_spec.specs.Signature.{Equation}
use Rattle.sp_spec.specs.Same.{same_variable, same_sort}
use Rattle.sp_spec.specs.Substitution.{Binding, lookup, bound_to}
use Rattle.sp_spec.specs.Matching.{matched_by, bound_by, has_sort_by, variable_has_sort, IsMatch}
use Rattle.sp_spec.proofs.Same.{same_variable_decides}
use Rattle.sp_spec.proofs.Bindings.{is_match, none_matches}
use Rattle.sp_law_unify.specs.MostGeneral.{IsOfSort}
use Rattle.sp_law_unify.proofs.Sorts.{nothing_put}
use Rattle.sp_law_equal.proofs.Made.{each_weaken}
use Rattle.sp_spec_forms.specs.Reducible.{is_matched}
use Rattle.sp_law_forms.proofs.Numbered.{same_valued}

-- a term that passes the test of its sort is of the sort
sort_tells : (s : Sort) (t : Term Variable) → has_sort_by variable_has_sort s t ≡ true → IsOfSort s t
sort_tells Msg t e = tt
sort_tells Fresh (var x) e = by_sort x.sort e
  where
    by_sort : (u : Sort) → same_sort Fresh u ≡ true → u ≡ Fresh
    by_sort Msg k = absurd cc
    by_sort Fresh k = refl
    by_sort Pub k = absurd cc
sort_tells Fresh (constant c) e = absurd cc
sort_tells Fresh (name n) e = tt
sort_tells Fresh (app f ts) e = absurd cc
sort_tells Pub (var x) e = by_sort x.sort e
  where
    by_sort : (u : Sort) → same_sort Pub u ≡ true → u ≡ Pub
    by_sort Msg k = absurd cc
    by_sort Fresh k = absurd cc
    by_sort Pub k = refl
sort_tells Pub (constant c) e = tt
sort_tells Pub (name n) e = absurd cc
sort_tells Pub (app f ts) e = absurd cc

own_sort : (s : Sort) (x : Variable) → x.sort ≡ s → has_sort_by variable_has_sort s (var x) ≡ true
own_sort Msg x e = refl
own_sort Fresh x e = ap (same_sort Fresh) e
own_sort Pub x e = ap (same_sort Pub) e

-- what makes a left side the term, each of its variable's sort
abbrev pub Instance : Term Variable → Term Variable → Type 0
Instance l t = (s : Variable → Term Variable) × ((x : Variable) → IsOfSort x.sort (s x)) × (valued s l ≡ t)

-- where the test passes the term is an instance of the left side
pub matched_instance : (t : Term Variable) (e : Equation) → is_matched t e ≡ true → Instance e.left t
matched_instance t e k = by_answer (matched_by (bound_by same_variable variable_has_sort) e.left t []) refl k
  where
    by_answer : (o : Option (List Binding)) → matched_by (bound_by same_variable variable_has_sort) e.left t [] ≡ o → is_some o ≡ true → Instance e.left t
    by_answer None is k = absurd cc
    by_answer (Some bs) is k =
        let m : IsMatch variable_has_sort e.left t bs = is_match same_variable same_variable_decides variable_has_sort e.left t bs is in
        (bound_to bs, λ x. kept x (lookup bs x) refl (m.sorted x), m.gives (bound_to bs) (λ x u l. ap (λ (o : Option (Term Variable)). unwrap_or o (var x)) l))
      where
        kept : (x : Variable) (o : Option (Term Variable)) → lookup bs x ≡ o
            → ((u : Term Variable) → lookup bs x ≡ Some u → has_sort_by variable_has_sort x.sort u ≡ true) → IsOfSort x.sort (unwrap_or o (var x))
        kept x None is h = nothing_put x
        kept x (Some u) is h = sort_tells x.sort u (h u is)

-- the term for a variable of sort msg, another one itself
abbrev if_msg : Sort → Term Variable → Variable → Term Variable
if_msg Msg t x = t
if_msg Fresh t x = var x
if_msg Pub t x = var x

-- each term that a left side over variables of sort msg can be made is found
pub is_matched_from : (t : Term Variable) (e : Equation) (s : Variable → Term Variable) → EachVariable (λ (x : Variable). x.sort ≡ Msg) e.left
    → valued s e.left ≡ t → is_matched t e ≡ true
is_matched_from t e s msg h = by_answer (matched_by (bound_by same_variable variable_has_sort) e.left t []) refl
  where
    put : Variable → Term Variable
    put x = if_msg x.sort (s x) x

    keeps : (x : Variable) → has_sort_by variable_has_sort x.sort (put x) ≡ true
    keeps x = by_sort x.sort refl
      where
        by_sort : (u : Sort) → x.sort ≡ u → has_sort_by variable_has_sort u (if_msg u (s x) x) ≡ true
        by_sort Msg is = refl
        by_sort Fresh is = own_sort Fresh x is
        by_sort Pub is = own_sort Pub x is

    gives : valued put e.left ≡ t
    gives =
        same_valued put s e.left
        (each_weaken any_names (λ (x : Variable). x.sort ≡ Msg) (λ x. put x ≡ s x) (λ x k. ap (λ u. if_msg u (s x) x) k) e.left msg)
        ∙ h

    by_answer : (o : Option (List Binding)) → matched_by (bound_by same_variable variable_has_sort) e.left t [] ≡ o → is_some o ≡ true
    by_answer None is = absurd (none_matches same_variable same_variable_decides variable_has_sort e.left t is put keeps gives)
    by_answer (Some bs) is = refl

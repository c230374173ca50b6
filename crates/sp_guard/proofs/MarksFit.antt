-- Variables fit their binders one after the other, and the quantifiers in a row are gone through at once.
use Rattle.std.proofs.Common.{◌≡◌, refl, sym, ap, ap₂, ◌∙◌, Bool, true, false, ◌&&◌, ◌||◌, nat_lt, length, List, [], ◌∷◌, ◌++◌, map}
use Rattle.sp_spec.specs.Formula.{Written, Formula, truth, falsity, happens, equals, precedes, not_so, both, either, implies, for_all, for_some}
use Rattle.sp_spec.specs.Term.{Term, var, constant, name, app, Terms, none, more, in_term, in_terms, each_variable, each_variables}
use Rattle.sp_spec.specs.Findings.{is_wide}
use Rattle.sp_term.specs.declared.term.Term as memory
use Rattle.sp_term.proofs.Lists.{count-view_all}
use Rattle.sp_read_parts.specs.declared.written.WrittenVariable.{WrittenVariable}
use Rattle.sp_spec_text.specs.Shapes.{quantified}
use Rattle.sp_spec_text.specs.Formulas.{quantified_some}
use Rattle.sp_read_parts.specs.Views.{terms, variable}
use Rattle.sp_law_guard.specs.GuardedForm.{meant}
use Rattle.sp_law_guard.specs.CheckedForm.{fits, each_fits, marks_fit, has_wide}
use Rattle.sp_walk.specs.Atoms.{any_atom}
use Rattle.sp_guard.specs.View.{innermost_first}
use Rattle.sp_guard.specs.Wide.{is_wide_atom}
use Rattle.sp_spec.specs.Lists.{newest_first}
use Rattle.sp_walk.proofs.Collected.{regrouped, inside}

pub one_fits : (x : Bool) → x && true ≡ x
one_fits true = refl
one_fits false = refl

and_grouped : (x y z : Bool) → x && (y && z) ≡ (x && y) && z
and_grouped true y z = refl
and_grouped false y z = refl

pub both_fit : (bs xs ys : List Written) → each_fits bs (xs ++ ys) ≡ each_fits bs xs && each_fits bs ys
both_fit bs [] ys = refl
both_fit bs (x ∷ xs) ys =
    ap (λ (b : Bool). fits x.mark (meant bs x.name) && b) (both_fit bs xs ys) ∙ and_grouped (fits x.mark (meant bs x.name)) (each_fits bs xs) (each_fits bs ys)

-- the first of two tests, and the second where it is passed
pub first_so : (a b x y : Bool) → a ≡ x → b ≡ y → a ≡ true → b ≡ x && y
first_so true b x y e h t = h ∙ ap (λ (c : Bool). c && y) e
first_so false b x y e h t = absurd cc

pub first_not : (a x y : Bool) → a ≡ x → a ≡ false → a ≡ x && y
first_not true x y e t = absurd cc
first_not false x y e t = ap (λ (c : Bool). c && y) e

-- each variable of a term, as it stands there
module _ (bs : List Written) where
  abbrev pub fitting : Written → Bool
  fitting x = fits x.mark (meant bs x.name)

  mutual
    fit_in_term : (t : Term Written) → each_variable fitting t ≡ each_fits bs (in_term t)
    fit_in_term (var x) = sym (one_fits (fitting x))
    fit_in_term (constant c) = refl
    fit_in_term (name n) = refl
    fit_in_term (app f ts) = fit_in_terms ts

    fit_in_terms : (ts : Terms Written) → each_variables fitting ts ≡ each_fits bs (in_terms ts)
    fit_in_terms none = refl
    fit_in_terms (more t ts) = ap₂ (λ (a b : Bool). a && b) (fit_in_term t) (fit_in_terms ts) ∙ sym (both_fit bs (in_term t) (in_terms ts))

  pub action_fits : (ts : Terms Written) (x : Written) → each_variables fitting ts && fitting x ≡ each_fits bs (in_terms ts ++ (x ∷ []))
  action_fits ts x = ap₂ (λ (a b : Bool). a && b) (fit_in_terms ts) (sym (one_fits (fitting x))) ∙ sym (both_fit bs (in_terms ts) (x ∷ []))

  pub equality_fits : (t u : Term Written) → each_variable fitting t && each_variable fitting u ≡ each_fits bs (in_term t ++ in_term u)
  equality_fits t u = ap₂ (λ (a b : Bool). a && b) (fit_in_term t) (fit_in_term u) ∙ sym (both_fit bs (in_term t) (in_term u))

pub wide_length : (ts : List (memory.Term WrittenVariable)) → is_wide (terms ts) ≡ nat_lt 16 (length ts)
wide_length ts = ap (nat_lt 16) (count-view_all variable ts)

-- each implies the other
pub both_ways : (x y : Bool) → x && y ≡ (x && y) && (y && x)
both_ways true true = refl
both_ways true false = refl
both_ways false y = refl

all_fit : (bs xs : List Written) (f : Formula) → marks_fit (newest_first xs ++ bs) f ≡ marks_fit bs (quantified xs f)
all_fit bs [] f = refl
all_fit bs (x ∷ xs) f = ap (λ (cs : List Written). marks_fit cs f) (regrouped xs bs x) ∙ all_fit (x ∷ bs) xs f

some_fit : (bs xs : List Written) (f : Formula) → marks_fit (newest_first xs ++ bs) f ≡ marks_fit bs (quantified_some xs f)
some_fit bs [] f = refl
some_fit bs (x ∷ xs) f = ap (λ (cs : List Written). marks_fit cs f) (regrouped xs bs x) ∙ some_fit (x ∷ bs) xs f

pub fit_for_all : (bs vs all : List WrittenVariable) (f : Formula) → all ≡ bs ++ vs → marks_fit (innermost_first all) f ≡ marks_fit (innermost_first bs) (quantified (map variable vs) f)
fit_for_all bs vs all f e =
    ap (λ (cs : List WrittenVariable). marks_fit (innermost_first cs) f) e ∙ ap (λ (cs : List Written). marks_fit cs f) (inside bs vs) ∙ all_fit (innermost_first bs) (map variable vs) f

pub fit_for_some : (bs vs all : List WrittenVariable) (f : Formula) → all ≡ bs ++ vs → marks_fit (innermost_first all) f ≡ marks_fit (innermost_first bs) (quantified_some (map variable vs) f)
fit_for_some bs vs all f e =
    ap (λ (cs : List WrittenVariable). marks_fit (innermost_first cs) f) e ∙ ap (λ (cs : List Written). marks_fit cs f) (inside bs vs) ∙ some_fit (innermost_first bs) (map variable vs) f

-- an action of the formula is wide where one of its atoms is
pub any_wide : (f : Formula) → any_atom is_wide_atom f ≡ has_wide f
any_wide truth = refl
any_wide falsity = refl
any_wide (happens a i) = refl
any_wide (equals t u) = refl
any_wide (precedes i j) = refl
any_wide (not_so f) = any_wide f
any_wide (both f g) = ap₂ (λ (a b : Bool). a || b) (any_wide f) (any_wide g)
any_wide (either f g) = ap₂ (λ (a b : Bool). a || b) (any_wide f) (any_wide g)
any_wide (implies f g) = ap₂ (λ (a b : Bool). a || b) (any_wide f) (any_wide g)
any_wide (for_all x f) = any_wide f
any_wide (for_some x f) = any_wide f

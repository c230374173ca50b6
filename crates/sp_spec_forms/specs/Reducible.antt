-- Terms inside of which an equation could be used. Source: CSF 2012, "Constraint solving" (terms of nodes are in normal form); Schmidt's thesis,
-- chapter 3 (normal form condition).
use Rattle.std.specs.Prelude.{Bool, true, not, ◌&&◌, List, [], ◌++◌, map, is_some}
use Rattle.std.specs.List.{list_any, list_all}
use Rattle.sp_spec.specs.Term.{Variable, Term, app, Terms, none, more}
use Rattle.sp_spec.specs.Signature.{Equation}
use Rattle.sp_spec.specs.Same.{same_variable}
use Rattle.sp_spec.specs.Matching.{matched_by, bound_by, variable_has_sort}
use Rattle.sp_spec.specs.Rule.{Facts}

-- whether terms for the variables of the left side, each of its variable's sort, make it the term
abbrev pub is_matched : Term Variable → Equation → Bool
is_matched t e = is_some (matched_by (bound_by same_variable variable_has_sort) e.left t [])

-- whether no left side matches a term inside it
abbrev mutual
  pub irreducible : List Equation → Term Variable → Bool
  irreducible es (app f ts) = irreducible_all es ts && not (list_any (is_matched (app f ts)) es)
  irreducible es t = true

  pub irreducible_all : List Equation → Terms Variable → Bool
  irreducible_all es none = true
  irreducible_all es (more t ts) = irreducible es t && irreducible_all es ts

-- the arguments of all facts, in their order
abbrev pub args_of : {V : Type 0} → Facts V → List (Terms V)
args_of f = map (λ p. p.args) f.premises ++ (map (λ a. a.args) f.actions ++ map (λ c. c.args) f.conclusions)

abbrev pub irreducible_facts : List Equation → Facts Variable → Bool
irreducible_facts es f = list_all (irreducible_all es) (args_of f)

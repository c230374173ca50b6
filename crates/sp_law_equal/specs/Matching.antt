-- Which values of its variables make a pattern a term.
use Rattle.std.specs.Prelude.{◌≡◌, List, [], Bool, Option, unwrap_or}
use Rattle.sp_spec.specs.Term.{Sort, Msg, Fresh, Pub, Variable, Term, constant, name, Terms, Ground, Grounds, Values, valued}
use Rattle.sp_spec.specs.Signature.{RespectsSorts}
use Rattle.sp_spec.specs.Same.{no_test}
use Rattle.sp_spec.specs.Substitution as substitution
use Rattle.sp_spec.specs.Matching.{matched_by, matched_all_by, has_sort_by, never_has_sort, kept_or, bound_by}

-- a variable and its value
abbrev pub Bound : Type 0
Bound = Variable × Ground

-- what the first binding of a variable gives it
abbrev pub lookup : List Bound → Variable → Option Ground
lookup bs x = substitution.lookup bs x

-- some term of the sort
abbrev pub any_of : Sort → Ground
any_of Msg = constant []
any_of Fresh = name 0
any_of Pub = constant []

-- a variable without a binding has some value of its sort
abbrev pub value_in : List Bound → Values
value_in bs x = unwrap_or (lookup bs x) (any_of x.sort)

-- bindings that respect sorts and make the pattern the term
pub record IsMatch (pattern : Term Variable) (term : Ground) (bs : List Bound) : Type 0 where
  pub gives : valued (value_in bs) pattern ≡ term
  pub respects : RespectsSorts (value_in bs)

-- no values that respect sorts make the pattern the term
abbrev pub NoneMatches : Term Variable → Ground → Type 0
NoneMatches pattern term = (v : Values) → RespectsSorts v → valued v pattern ≡ term → ⊥

abbrev pub has_sort : Sort → Ground → Bool
has_sort sort t = has_sort_by never_has_sort sort t

-- a variable that has a value keeps it
abbrev pub by_bound : Option Ground → Variable → Ground → List Bound → Option (List Bound)
by_bound o x t bs = kept_or no_test never_has_sort o x t bs

-- the bindings, with those that the pattern wants beside the term
abbrev pub matched : Term Variable → Ground → List Bound → Option (List Bound)
matched p t bs = matched_by (bound_by no_test never_has_sort) p t bs

abbrev pub matched_all : Terms Variable → Grounds → List Bound → Option (List Bound)
matched_all ps ts bs = matched_all_by (bound_by no_test never_has_sort) ps ts bs

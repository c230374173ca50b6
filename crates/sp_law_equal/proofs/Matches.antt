-- What `matched` finds, and what it refuses, where a variable without a binding has some value of its sort.
use Rattle.std.proofs.Common.{◌≡◌, List, [], Option, Some, None, unwrap_or, refl, ap}
use Rattle.sp_spec.specs.Term.{Sort, Msg, Fresh, Pub, Variable, Term, Ground}
use Rattle.sp_spec.specs.Signature.{HasSort, RespectsSorts}
use Rattle.sp_spec.specs.Same.{no_test}
use Rattle.sp_spec.specs.Matching.{never_has_sort, Agrees}
use Rattle.sp_law_equal.specs.Matching.{Bound, lookup, any_of, value_in, IsMatch, NoneMatches, matched}
use Rattle.sp_spec.proofs.Same.{no_test_decides}
use Rattle.sp_spec.proofs.Bindings as bindings
use Rattle.sp_law_equal.proofs.Tests.{has_sort_decides}

pub any_has_sort : (s : Sort) → HasSort s (any_of s)
any_has_sort Msg = tt
any_has_sort Fresh = tt
any_has_sort Pub = tt

value_respects : (bs : List Bound) → ((y : Variable) (u : Ground) → lookup bs y ≡ Some u → HasSort y.sort u) → RespectsSorts (value_in bs)
value_respects bs h y = by_value (lookup bs y) refl
  where
    by_value : (o : Option Ground) → lookup bs y ≡ o → HasSort y.sort (unwrap_or o (any_of y.sort))
    by_value None e = any_has_sort y.sort
    by_value (Some u) e = h y u e

agrees_itself : (bs : List Bound) → Agrees (value_in bs) bs
agrees_itself bs x t e = ap (λ o. unwrap_or o (any_of x.sort)) e

-- what is found makes the pattern the term, and respects sorts
pub is_match : (p : Term Variable) (t : Ground) (bs : List Bound) → matched p t [] ≡ Some bs → IsMatch p t bs
is_match p t bs e =
    let m = bindings.is_match no_test no_test_decides never_has_sort p t bs e in
    record { gives = m.gives (value_in bs) (agrees_itself bs); respects = value_respects bs (λ x u k. (has_sort_decides x.sort u).0 (m.sorted x u k)) }

-- where nothing is found there is nothing to find
pub none_matches : (p : Term Variable) (t : Ground) → matched p t [] ≡ None → NoneMatches p t
none_matches p t e v r f = bindings.none_matches no_test no_test_decides never_has_sort p t e v (λ x. (has_sort_decides x.sort (v x)).1 (r x)) f

-- The values under which a proof begins are normal ones of the variables' sorts.
use Rattle.sp_spec.specs.Term.{Sort, Msg, Fresh, Pub, Variable}
use Rattle.sp_spec.specs.Signature.{Signature, IsValue, IsValuation}
use Rattle.sp_spec.specs.Equal.{IsNormal}
use Rattle.sp_law_equal.specs.Matching.{any_of}
use Rattle.sp_law_cover.specs.Admitted.{start}

pub start_sorts : (signature : Signature) → IsValuation signature start.terms
unfolding start
start_sorts signature x = at x.sort
  where
    at : (sort : Sort) → IsValue signature sort (any_of sort)
    at Msg = (tt, tt)
    at Fresh = (tt, tt)
    at Pub = (tt, tt)

pub start_normal : (signature : Signature) (x : Variable) → IsNormal signature.equations (start.terms x)
unfolding start
start_normal signature x = at x.sort
  where
    at : (sort : Sort) → IsNormal signature.equations (any_of sort)
    at Msg = tt
    at Fresh = tt
    at Pub = tt

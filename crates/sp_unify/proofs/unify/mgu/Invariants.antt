use Rattle.std.proofs.Common.{map}
use Rattle.sp_term.specs.Bindings.{bindings}
use Rattle.sp_law_unify.specs.Progress.{left_over}
use Rattle.sp_unify.specs.View.{pair_view}
use Rattle.sp_law_unify.proofs.Way.{OnTheWay}
use Rattle.sp_unify.proofs.unify.mgu.Given as goal

abbrev pub invariant-loop-subst : goal.invariant-loop-subst
invariant-loop-subst l = OnTheWay (map pair_view l.pairs) (bindings l.subst)

abbrev pub decreases-loop-subst : goal.decreases-loop-subst
decreases-loop-subst l = left_over (bindings l.subst) (map pair_view l.pairs)

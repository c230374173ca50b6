use Rattle.std.proofs.Common.{◌≡◌, map, drop}
use Rattle.sp_spec.specs.Unifier.{first_difference}
use Rattle.sp_term.specs.Bindings.{bindings}
use Rattle.sp_unify.specs.View.{pair_view}
use Rattle.sp_unify.proofs.unify.next_step.Given as goal

abbrev pub invariant-loop-left : goal.invariant-loop-left
invariant-loop-left l =
    first_difference (bindings l.subst) (map pair_view l.pairs) ≡ first_difference (bindings l.subst) (map pair_view (drop l.left-index l.pairs))

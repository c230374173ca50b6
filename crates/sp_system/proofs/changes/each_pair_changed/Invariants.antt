use Rattle.std.proofs.Common.{◌≡◌, take, map}
use Rattle.sp_spec.specs.Substitution.{bound_to}
use Rattle.sp_term.specs.Bindings.{bindings}
use Rattle.sp_spec_system.specs.Equating.{pair_changed}
use Rattle.sp_unify.specs.View.{pair_view}
use Rattle.sp_system.proofs.changes.each_pair_changed.Given as goal

abbrev pub invariant-loop-pair : goal.invariant-loop-pair
invariant-loop-pair l = map pair_view l.made.items ≡ map (pair_changed (bound_to (bindings l.subst))) (map pair_view (take l.pair-index l.pair-items))

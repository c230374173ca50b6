use Rattle.std.proofs.Common.{◌≡◌, drop, map}
use Rattle.sp_term.specs.Bindings.{bindings}
use Rattle.sp_unify.specs.View.{pair_view}
use Rattle.sp_system.specs.Stays.{pair_stays}
use Rattle.sp_formula.specs.Staying.{all_so}
use Rattle.sp_system.proofs.staying.pairs_stay.Given as goal

abbrev pub invariant-loop-pair : goal.invariant-loop-pair
invariant-loop-pair l = all_so (pair_stays (bindings l.subst)) (map pair_view l.pairs.items) ≡ all_so (pair_stays (bindings l.subst)) (map pair_view (drop l.pair-index l.pair-items))

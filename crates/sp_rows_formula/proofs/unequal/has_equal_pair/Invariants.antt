use Rattle.std.proofs.Common.{◌≡◌, map, drop}
use Rattle.sp_unify.specs.View.{pair_view}
use Rattle.sp_spec_formula.specs.Unequal as rows
use Rattle.sp_rows_formula.proofs.unequal.has_equal_pair.Given as goal

abbrev pub invariant-loop-pair : goal.invariant-loop-pair
invariant-loop-pair l = rows.has_equal_pair (map pair_view l.pairs.items) ≡ rows.has_equal_pair (map pair_view (drop l.pair-index l.pair-items))

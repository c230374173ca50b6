use Rattle.std.proofs.Common.{◌≡◌, ◌++◌, map}
use Rattle.std.specs.Slice.Iter.{iter_rest}
use Rattle.sp_spec.specs.Log.{linear_sources}
use Rattle.sp_fact.specs.GroundView.{ground_fact}
use Rattle.sp_log.specs.View.{source_of}
use Rattle.sp_log.proofs.sources.linear_sources.Given as goal

abbrev pub invariant-loop-premise : goal.invariant-loop-premise
invariant-loop-premise l =
    map source_of l.named.items ++ linear_sources (map ground_fact (iter_rest l.premise-iterator.a)) (map source_of (iter_rest l.premise-iterator.b))
    ≡ linear_sources (map ground_fact l.premises.items) (map source_of l.sources.items)

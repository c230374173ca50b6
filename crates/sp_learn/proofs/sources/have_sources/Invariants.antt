use Rattle.std.proofs.Common.{◌≡◌, length, map}
use Rattle.std.specs.Slice.Iter.{iter_rest}
use Rattle.sp_fact.specs.GroundView.{ground_fact}
use Rattle.sp_log.specs.Checking.{have_sources}
use Rattle.sp_log.specs.View.{source_of}
use Rattle.sp_learn.specs.View.{entry_of}
use Rattle.sp_learn.proofs.sources.have_sources.Given as goal

abbrev pub invariant-loop-premise : goal.invariant-loop-premise
invariant-loop-premise l =
    (have_sources (map ground_fact l.premises.items) (map source_of l.sources.items) (map entry_of l.earlier)
    ≡ have_sources (map ground_fact (iter_rest l.premise-iterator.a)) (map source_of (iter_rest l.premise-iterator.b)) (map entry_of l.earlier))
    × (length (iter_rest l.premise-iterator.a) ≡ length (iter_rest l.premise-iterator.b))

use Rattle.std.proofs.Common.{◌≡◌, drop, map}
use Rattle.sp_log.specs.Checking.{same_source, is_one_of}
use Rattle.sp_log.specs.View.{source_of}
use Rattle.sp_log.proofs.sources.is_one_of.Given as goal

abbrev pub invariant-loop-other : goal.invariant-loop-other
invariant-loop-other l =
    is_one_of same_source (map source_of l.sources.items) (source_of l.source) ≡ is_one_of same_source (map source_of (drop l.other-index l.other-items)) (source_of l.source)

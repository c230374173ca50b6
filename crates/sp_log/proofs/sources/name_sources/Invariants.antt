use Rattle.std.proofs.Common.{◌≡◌, ◌++◌, drop, map}
use Rattle.sp_log.specs.Checking.{same_source, are_new}
use Rattle.sp_log.specs.View.{source_of}
use Rattle.sp_log.proofs.sources.name_sources.Given as goal

abbrev pub invariant-loop-source : goal.invariant-loop-source
invariant-loop-source l =
    (are_new same_source (map source_of l.fn.named.items) (map source_of l.sources.items)
    ≡ are_new same_source (map source_of l.named.items) (map source_of (drop l.source-index l.source-items)))
    × (map source_of l.named.items ++ map source_of (drop l.source-index l.source-items) ≡ map source_of l.fn.named.items ++ map source_of l.sources.items)

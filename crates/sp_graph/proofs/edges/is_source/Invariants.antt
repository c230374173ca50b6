use Rattle.std.proofs.Common.{◌≡◌, drop, map}
use Rattle.sp_log.specs.View.{source_of}
use Rattle.sp_graph.specs.Edges.{is_source}
use Rattle.sp_graph.proofs.edges.is_source.Given as goal

abbrev pub invariant-loop-source : goal.invariant-loop-source
invariant-loop-source l =
    is_source l.position (map source_of l.sources.items) ≡ is_source l.position (map source_of (drop l.source-index l.source-items))

-- What edges in memory stand for.
use Rattle.sp_graph.specs.Edges as spec
use Rattle.sp_graph.specs.declared.edges.Edge.{Edge}

abbrev pub edge_of : Edge → spec.Edge
edge_of e = record { from = e.from; is_fact = e.is_fact; to = e.to }

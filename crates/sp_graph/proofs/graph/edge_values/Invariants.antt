use Rattle.std.proofs.Common.{◌≡◌, ◌++◌, drop, map}
use Rattle.serde_json.specs.View.{view}
use Rattle.sp_learn.specs.View.{entry_of}
use Rattle.sp_graph.specs.Edges.{edges}
use Rattle.sp_graph.specs.EdgesView.{edge_of}
use Rattle.sp_graph.specs.Graph.{edge}
use Rattle.sp_graph.proofs.graph.edge_values.Given as goal

abbrev pub invariant-loop-edge : goal.invariant-loop-edge
invariant-loop-edge l =
    map view l.values.items ++ map edge (map edge_of (drop l.edge-index l.edge-items)) ≡ map edge (edges (map entry_of l.entries.items))

use Rattle.std.proofs.Common.{◌≡◌, ◌++◌, drop, map, take}
use Rattle.sp_learn.specs.View.{entry_of}
use Rattle.sp_graph.specs.Edges.{edges, edges_behind}
use Rattle.sp_graph.specs.EdgesView.{edge_of}
use Rattle.sp_graph.proofs.edges.edges.Given as goal

-- the edges so far, and those to what is left, are all
abbrev pub invariant-loop-to : goal.invariant-loop-to
invariant-loop-to l =
    map edge_of l.out.items ++ edges_behind (map entry_of (take l.to l.entries.items)) (map entry_of (drop l.to l.entries.items))
    ≡ edges (map entry_of l.entries.items)

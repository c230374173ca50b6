use Rattle.std.proofs.Common.{◌≡◌, ◌++◌, drop, length, map}
use Rattle.sp_learn.specs.View.{entry_of}
use Rattle.sp_graph.specs.Edges.{edge_to, edges_to, taken_from}
use Rattle.sp_graph.specs.EdgesView.{edge_of}
use Rattle.sp_graph.proofs.edges.push_edges_to.Given as goal

-- the edges so far, and those from what is left, are those to the entry
abbrev pub invariant-loop-from : goal.invariant-loop-from
invariant-loop-from l =
    let e = entry_of l.entry in
    map edge_of l.out.items ++ map (edge_to e (length l.earlier)) (taken_from e l.from (map entry_of (drop l.from l.earlier)))
    ≡ map edge_of l.fn.out.items ++ edges_to e (map entry_of l.earlier)

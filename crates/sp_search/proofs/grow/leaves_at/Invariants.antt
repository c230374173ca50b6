use Rattle.std.proofs.Common.{◌≡◌, map, string_bytes}
use Rattle.sp_step.specs.View.{context_of, case_of}
use Rattle.sp_search.specs.NodeView.{nodes_at}
use Rattle.sp_search.specs.Turning.{name_of, open_node}
use Rattle.sp_search.proofs.grow.leaves_at.Given as goal

abbrev pub invariant-loop-case : goal.invariant-loop-case
invariant-loop-case l = record {
  names : map string_bytes l.names.items ≡ map name_of (map case_of l.yielded);
  leaves : nodes_at l.leaves.items ≡ map (open_node (context_of l.context) l.depth) (map case_of l.yielded);
}

-- The trees that trees in memory stand for.
use Rattle.sp_spec_proof.specs.Tree as spec
use Rattle.sp_search.specs.Kept.{Kept, shown}
use Rattle.sp_search.specs.Kinds.{kept}
use Rattle.sp_search.specs.NodeView.{nodes_at}
use Rattle.sp_search.specs.declared.tree.Tree.{Tree}

abbrev pub kept_of : Tree → Kept
kept_of t = kept (nodes_at t.nodes.items)

abbrev pub tree_of : Tree → spec.Tree
tree_of t = shown (kept_of t)

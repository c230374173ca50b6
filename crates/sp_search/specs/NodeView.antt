-- The nodes that nodes in memory stand for.
use Rattle.std.specs.Prelude.{List, map, option_map, string_bytes}
use Rattle.sp_system.specs.SystemView.{system_of}
use Rattle.sp_learn.specs.View.{log_of}
use Rattle.sp_step.specs.View.{move_of}
use Rattle.sp_step.specs.Choosing.{ranked_of}
use Rattle.sp_search.specs.Kinds.{Kind, open_leaf, end_at, choice}
use Rattle.sp_search.specs.declared.node.Node.{Node}
use Rattle.sp_search.specs.declared.node.OpenLeaf.{OpenLeaf}
use Rattle.sp_search.specs.declared.node.Node.TheVariants.{Open, Ended, Inner}

abbrev pub leaf_of : OpenLeaf → Kind
leaf_of leaf = open_leaf (system_of leaf.system) (option_map ranked_of leaf.choice) leaf.depth

abbrev pub node_at : Node → Kind
node_at (Open leaf) = leaf_of leaf.value
node_at (Ended log) = end_at (log_of log.value)
node_at (Inner move cases) = choice (move_of move) (map string_bytes cases.items)

abbrev pub nodes_at : List Node → List Kind
nodes_at nodes = map node_at nodes

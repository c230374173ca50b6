-- The nodes that blocks in memory stand for.
use Rattle.std.specs.Prelude.{List, map}
use Rattle.sp_search.specs.Kinds.{Kind}
use Rattle.sp_search.specs.NodeView.{nodes_at}
use Rattle.sp_search.specs.InBlocks.{joined}
use Rattle.sp_search.specs.declared.block.Block.{Block}

abbrev pub nodes_of : Block → List Kind
nodes_of b = nodes_at b.nodes.items

abbrev pub kinds_of : List Block → List (List Kind)
kinds_of bs = map nodes_of bs

abbrev pub all_of : List Block → List Kind
all_of bs = joined (kinds_of bs)

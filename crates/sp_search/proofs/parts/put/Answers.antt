use Rattle.std.proofs.Common.{◌∙◌, ap, List}
use Rattle.sp_search.specs.BlockView.{kinds_of}
use Rattle.sp_search.specs.NodeView.{nodes_at}
use Rattle.sp_search.specs.declared.block.Block.{Block}
use Rattle.sp_search.proofs.BlockParts.{insert_kinds}
use Rattle.sp_search.proofs.parts.put.Goals as goal

pub returns : goal.returns
returns c =
    ap (λ (bs : List Block). kinds_of bs) c.in_ok-insert.ensures.items
    ∙ insert_kinds c.args.index c.args.blocks.items c.block_of.result (nodes_at c.args.nodes.items) c.block_of.ensures

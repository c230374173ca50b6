use Rattle.std.proofs.Common.{refl}
use Rattle.sp_search.proofs.BlockParts.{block_behind}
use Rattle.sp_search.proofs.parts.all_nodes.Goals as goal

pub loop-block-preserved : goal.loop-block-preserved
loop-block-preserved c =
    block_behind c.loop-block.nodes.items c.in-Some.block.nodes.items c.append.new.self.items c.loop-block.yielded c.in-Some.block c.in_ok-append.ensures.items refl c.loop-block.invariant

use Rattle.std.proofs.Common.{◌∙◌, ap, List}
use Rattle.sp_search.specs.BlockView.{kinds_of}
use Rattle.sp_search.specs.declared.block.Block.{Block}
use Rattle.sp_search.proofs.BlockParts.{remove_kinds, block_is}
use Rattle.sp_search.proofs.parts.taken.Goals as goal

pub returns-clause-rest : goal.returns-clause-rest
returns-clause-rest c = ap (λ (bs : List Block). kinds_of bs) c.remove-nodes.ensures.items ∙ remove_kinds c.args.index c.args.blocks.items

pub returns-clause-nodes : goal.returns-clause-nodes
returns-clause-nodes c = block_is c.args.index c.args.blocks.items c.remove-nodes.result c.requires c.remove-nodes.ensures.value

use Rattle.std.proofs.Common.{◌≤◌, ◌∙◌, ap, length, arith}
use Rattle.sp_search.specs.BlockView.{kinds_of}
use Rattle.sp_search.specs.InBlocks.{joined}
use Rattle.sp_search.specs.NodeView.{nodes_at}
use Rattle.sp_search.proofs.BlockParts.{put_once, parted_is, many_kinds}
use Rattle.sp_search.proofs.parts.with_nodes.Goals as goal

pub returns-then-len-le-MANY : goal.returns-then-len-le-MANY
returns-then-len-le-MANY c = ap joined c.in_ok-whole.ensures ∙ put_once c.args.index (nodes_at c.args.nodes.items) (kinds_of c.args.blocks.items)

pub returns : goal.returns
returns c =
    let blocks = c.args.blocks.items in
    let below : c.args.index ≤ length (kinds_of blocks) = omega (arith, c.requires, many_kinds blocks) in
    parted_is c.args.index _ c.args.nodes.items c.split_off.new.self.items c.in_ok-behind.behind.items (kinds_of blocks) (kinds_of c.in_ok-longer.longer.items) (kinds_of c.in_ok-parted.parted.items)
    c.in_ok-behind.ensures.items c.in_ok-behind.ensures.tail c.in_ok-longer.ensures c.in_ok-parted.ensures below

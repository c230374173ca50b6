use Rattle.std.proofs.Common.{◌≡◌, drop}
use Rattle.sp_search.specs.BlockView.{kinds_of}
use Rattle.sp_search.specs.InBlocks.{sooner_spot, first_spot}
use Rattle.sp_search.proofs.parts.next_spot.Given as goal

abbrev pub invariant-loop-index : goal.invariant-loop-index
invariant-loop-index l = sooner_spot l.found (first_spot l.index (kinds_of (drop l.index l.block-items))) ≡ first_spot 0 (kinds_of l.blocks.items)

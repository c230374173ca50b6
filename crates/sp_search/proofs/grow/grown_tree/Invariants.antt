use Rattle.std.proofs.Common.{◌≡◌, ◌-◌}
use Rattle.sp_step.specs.View.{context_of}
use Rattle.sp_system.specs.SystemView.{system_of}
use Rattle.sp_spec_proof.specs.Growth.{grown, grown_tree}
use Rattle.sp_search.specs.BlockView.{all_of}
use Rattle.sp_search.specs.Kept.{shown}
use Rattle.sp_search.specs.Kinds.{kept}
use Rattle.sp_search.proofs.Turns.{Belongs}
use Rattle.sp_search.proofs.grow.grown_tree.Given as goal

abbrev pub invariant-loop-turns : goal.invariant-loop-turns
invariant-loop-turns l =
    Belongs (context_of l.context) 0 (system_of l.fn.root) (kept (all_of l.tree.blocks.items))
    × (grown (context_of l.context) (system_of l.fn.root) (l.budget - l.turns) (shown (kept (all_of l.tree.blocks.items))) ≡ grown_tree (context_of l.context) (system_of l.fn.root) l.budget)

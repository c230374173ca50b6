use Rattle.std.proofs.Common.{◌≡◌, ◌++◌, length, string_bytes}
use Rattle.sp_skel.specs.AroundView.{around_of}
use Rattle.sp_skel.specs.Nodes.{behind}
use Rattle.sp_skel.proofs.tree_texts.write_behind.Given as goal

abbrev pub invariant-loop-names : goal.invariant-loop-names
invariant-loop-names l = record {
  text : string_bytes l.out ++ (behind (around_of l.around.items)).0 ≡ string_bytes l.initial.out ++ (behind (around_of l.initial.around.items)).0;
  left : (behind (around_of l.around.items)).1 ≡ (behind (around_of l.initial.around.items)).1;
}

abbrev pub decreases-loop-names : goal.decreases-loop-names
decreases-loop-names l = length l.around.items

use Rattle.std.proofs.Common.{sym, subst, ap, List}
use Rattle.sp_spec_nodes.specs.Preorder.{AreTrees}
use Rattle.sp_search.specs.Kinds.{Kind, case_count, kept}
use Rattle.sp_search.proofs.grow.whole.Goals as goal

pub invariant_of-result : goal.invariant_of-result
invariant_of-result c = record { is_one = subst (λ (ns : List Kind). AreTrees case_count 1 ns) (sym c.in_ok-nodes.ensures) c.args.tree.is_one }

pub returns : goal.returns
returns c = ap kept c.in_ok-nodes.ensures

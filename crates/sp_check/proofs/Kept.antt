-- The nodes that a tree is kept by, as they are seen, are those of one tree.
use Rattle.std.proofs.Common.{ℕ, List, length, sym}
use Rattle.std.specs.Prelude.{string_bytes}
use Rattle.std.proofs.lemmas.List.{length-map}
use Rattle.sp_spec_nodes.specs.Preorder.{AreTrees}
use Rattle.sp_spec_nodes.proofs.Preorder.{are_mapped, are_unmapped}
use Rattle.sp_check.specs.declared.skeleton.Node.{Node}
use Rattle.sp_check.specs.Nodes.{cases_at}
use Rattle.sp_check.specs.View.{node_of, nodes_of}

abbrev pub cases_in : Node → ℕ
cases_in n = length n.cases.items

pub seen_one : (ns : List Node) → AreTrees cases_in 1 ns → AreTrees cases_at 1 (nodes_of ns)
seen_one ns h = are_mapped node_of cases_in cases_at (λ n. sym (length-map n.cases.items string_bytes)) 1 ns h

-- and the other way round
pub one_seen : (ns : List Node) → AreTrees cases_at 1 (nodes_of ns) → AreTrees cases_in 1 ns
one_seen ns h = are_unmapped node_of cases_in cases_at (λ n. sym (length-map n.cases.items string_bytes)) 1 ns h

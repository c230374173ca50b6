use Rattle.std.proofs.Common.{◌≡◌, ◌+◌, ℕ, List, [], ◌∷◌, ◌++◌, length, String, Global, Vec, string_bytes, ap, ◌∙◌}
use Rattle.std.proofs.lemmas.List.{length-map, length-append, map-append}
use Rattle.sp_spec_nodes.specs.Preorder.{AreTrees}
use Rattle.sp_spec_nodes.proofs.Preorder.{are_appended, are_over}
use Rattle.sp_step.specs.declared.moves.Move.{Move}
use Rattle.sp_search.specs.declared.node.Node.{Node}
use Rattle.sp_search.specs.declared.node.Node.TheVariants.{Inner}
use Rattle.sp_search.specs.Kinds.{case_count}
use Rattle.sp_search.specs.NodeView.{node_at, nodes_at}
use Rattle.sp_test_search.proofs.growth.over_all.Goals as goal

abbrev Are : ℕ → List Node → Type 0
Are k nodes = AreTrees case_count k (nodes_at nodes)

none_yet : {X : Type 0} (names : List X) (nodes : List Node) → names ≡ [] → nodes ≡ [] → Are (length names) nodes
none_yet names nodes e f = rw e (rw f tt)

one_more : {X : Type 0} (names now : List X) (name : X) (nodes tree whole : List Node) → now ≡ names ++ name ∷ [] → whole ≡ nodes ++ tree
    → Are (length names) nodes → Are 1 tree → Are (length now) whole
one_more {X = X} names now name nodes tree whole e f h k =
    let both : AreTrees case_count (length names + 1) (nodes_at nodes ++ nodes_at tree) = are_appended case_count (length names) 1 (nodes_at nodes) (nodes_at tree) h k in
    rw e (rw (length-append names (name ∷ [])) (rw f (rw (map-append node_at nodes tree) both)))

over_cases : (chosen : Move) (names : Vec (String Global) Global) (below nodes : List Node) → nodes ≡ Inner chosen names ∷ below → Are (length names.items) below → Are 1 nodes
over_cases chosen names below nodes e h =
    rw e (are_over case_count (node_at (Inner chosen names)) (nodes_at below) (rw (length-map names.items string_bytes) h))

pub loop-name-init : goal.loop-name-init
loop-name-init c = none_yet c.new-names.result.items c.new-below.result.items c.new-names.ensures.items c.new-below.ensures.items

pub loop-name-preserved : goal.loop-name-preserved
loop-name-preserved c =
    one_more c.loop-name.names.items c.push.new.self.items c.in-Some.name c.loop-name.below.items c.in-Some.tree.nodes.items c.append.new.self.items
    c.in_ok-push.ensures.items c.in_ok-append.ensures.items c.loop-name.invariant c.in-Some.tree.is_one

pub invariant_of-result : goal.invariant_of-result
invariant_of-result c = record {
  is_one = over_cases c.loop-name.chosen-1 c.loop-name.names c.loop-name.below.items c.append-2.new.self.items
      (c.in_ok-append-2.ensures.items ∙ ap (λ nodes. nodes ++ c.loop-name.below.items) (c.in_ok-push-2.ensures.items ∙ ap (λ nodes. nodes ++ Inner c.loop-name.chosen-1 c.loop-name.names ∷ []) c.new-nodes.ensures.items))
      c.loop-name.invariant;
}

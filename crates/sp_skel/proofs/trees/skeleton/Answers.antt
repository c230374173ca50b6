use Rattle.std.proofs.Common.{◌≡◌, ◌≤◌, ℕ, List, length, map, take, string_bytes, sym, ap, ◌∙◌, subst, arith}
use Rattle.std.proofs.lemmas.List.{length-map, take_all}
use Rattle.sp_spec_nodes.specs.Preorder.{AreTrees}
use Rattle.sp_spec_nodes.proofs.Preorder.{are_unmapped}
use Rattle.sp_written.specs.declared.proof.WrittenProof.{WrittenProof}
use Rattle.sp_written.specs.declared.proof.WrittenStep.{WrittenStep}
use Rattle.sp_written.specs.Views.{step_at}
use Rattle.sp_check.specs.declared.skeleton.Node.{Node}
use Rattle.sp_check.specs.Nodes.{cases_at, tree_read}
use Rattle.sp_check.specs.View.{node_of, nodes_of}
use Rattle.sp_skel.specs.Steps.{node_said}
use Rattle.sp_skel.proofs.Said.{tree_said, seen_one, said_one}
use Rattle.sp_skel.proofs.trees.skeleton.Goals as goal

nodes_one : (p : WrittenProof) (ns : List Node) → nodes_of ns ≡ map node_said (map step_at p.steps.items) → AreTrees (λ n. length n.cases.items) 1 ns
nodes_one p ns e =
    are_unmapped node_of (λ n. length n.cases.items) cases_at (λ n. sym (length-map n.cases.items string_bytes)) 1 ns
    (subst (AreTrees cases_at 1) (sym e) (said_one (map step_at p.steps.items) (seen_one p.steps.items p.is_one)))

whole : (ss all : List WrittenStep) (i : ℕ) (ns : List Node) → ss ≡ all → length ss ≤ i → nodes_of ns ≡ map node_said (map step_at (take i ss)) → nodes_of ns ≡ map node_said (map step_at all)
whole ss all i ns is within e = e ∙ ap (λ xs. map node_said (map step_at xs)) (take_all i ss within ∙ is)

pub invariant_of-result : goal.invariant_of-result
invariant_of-result c = record {
  is_one = nodes_one c.args.proof.now c.loop-step.nodes.items
      (whole c.deref-step-items.result.now c.args.proof.now.steps.items c.loop-step.step-index c.loop-step.nodes.items c.deref-step-items.ensures.value (omega arith) c.loop-step.invariant);
}

pub returns : goal.returns
returns c =
    ap tree_read (whole c.deref-step-items.result.now c.args.proof.now.steps.items c.loop-step.step-index c.loop-step.nodes.items c.deref-step-items.ensures.value (omega arith) c.loop-step.invariant)
    ∙ tree_said (map step_at c.args.proof.now.steps.items) (seen_one c.args.proof.now.steps.items c.args.proof.now.is_one)

-- What the steps of a proof say, one behind the other, is the tree that the proof says.
use Rattle.std.proofs.Common.{◌≡◌, ℕ, List, [], ◌∷◌, length, map, refl, sym, ap}
use Rattle.std.proofs.lemmas.List.{length-map}
use Rattle.sp_spec_nodes.specs.Preorder.{AreTrees}
use Rattle.sp_spec_nodes.proofs.Preorder.{are_mapped}
use Rattle.sp_spec_nodes.proofs.Walks.{tree_mapped}
use Rattle.sp_spec_text.specs.Written.{Method, said, WrittenProof, step, no_case}
use Rattle.sp_written.specs.declared.proof.WrittenStep.{WrittenStep}
use Rattle.sp_written.specs.Views.{step_at, case_count, proof_over, written_proof}
use Rattle.sp_written.specs.Views as written
use Rattle.sp_check.specs.Skeleton.{unknown, node_read, none_read, branch_read}
use Rattle.sp_check.specs.Nodes.{with_names, cases_at, over, tree_read}
use Rattle.sp_skel.specs.Steps.{step_said, node_said, skeleton, branches}

names_said : (names : List (List ℕ)) (ps : List WrittenProof) → with_names names (map skeleton ps) ≡ branches (written.with_names names ps)
names_said [] ps = refl
names_said (name ∷ names) [] = refl
names_said (name ∷ names) (p ∷ ps) = ap (branch_read name (skeleton p)) (names_said names ps)

pub tree_said : (ss : List (Method × List (List ℕ))) → AreTrees case_count 1 ss → tree_read (map node_said ss) ≡ skeleton (written_proof ss)
tree_said ss h =
    tree_mapped case_count cases_at proof_over over node_said skeleton (λ s. refl) (λ s ps. ap (node_read (step_said s.0)) (names_said s.1 ps))
    (step (said []) no_case) (node_read (unknown []) none_read) ss h

abbrev pub cases_written : WrittenStep → ℕ
cases_written s = length s.cases.items

pub seen_one : (ss : List WrittenStep) → AreTrees cases_written 1 ss → AreTrees case_count 1 (map step_at ss)
seen_one ss h = are_mapped step_at cases_written case_count (λ s. sym (length-map s.cases.items (λ name. name.now))) 1 ss h

pub said_one : (ss : List (Method × List (List ℕ))) → AreTrees case_count 1 ss → AreTrees cases_at 1 (map node_said ss)
said_one ss h = are_mapped node_said case_count cases_at (λ s. refl) 1 ss h

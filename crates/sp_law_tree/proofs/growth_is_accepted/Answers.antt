use Rattle.sp_spec_proof.proofs.Growing.{grown_tree_accepted, grown_tree_steps}
use Rattle.sp_law_tree.proofs.growth_is_accepted.Goals as goal

pub returns : goal.returns
returns c = record {
  accepted = grown_tree_accepted;
  within_budget = grown_tree_steps;
}

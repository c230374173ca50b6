use Rattle.sp_law_cover.proofs.Covering.{moves_are_covered}
use Rattle.sp_law_tree.proofs.Trees.{finished_trees_show}
use Rattle.sp_spec_proof.proofs.TreeLogs.{log_found, log_at_end, no_log}
use Rattle.sp_law_tree.proofs.accepted_trees_show.Goals as goal

pub returns : goal.returns
returns c = record {
  trees = λ theory p. finished_trees_show theory (moves_are_covered theory p);
  found = λ context s tree log e. log_found context tree s log e;
  ends = λ context s tree a e. log_at_end context tree s a e;
  no_end = λ context s tree e. no_log context tree s e;
}

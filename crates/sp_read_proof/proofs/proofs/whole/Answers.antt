use Rattle.std.proofs.Common.{length, sym}
use Rattle.std.proofs.lemmas.List.{length-map}
use Rattle.sp_spec_nodes.proofs.Preorder.{are_unmapped}
use Rattle.sp_written.specs.Views.{step_at, case_count}
use Rattle.sp_read_proof.proofs.proofs.whole.Goals as goal

pub invariant_of-result : goal.invariant_of-result
invariant_of-result c = record {
  is_one = are_unmapped step_at (λ s. length s.cases.items) case_count (λ s. sym (length-map s.cases.items (λ name. name.now))) 1 c.args.steps.items c.requires;
}

use Rattle.std.proofs.Common.{length, ◌≤◌, ◌-◌}
use Rattle.sp_read_parts.specs.Views.{seen_from}
use Rattle.sp_read_parts.proofs.Annotated.{Annotating}
use Rattle.sp_read_parts.proofs.annotations.annotation_list.Given as goal

abbrev pub invariant-loop-found : goal.invariant-loop-found
invariant-loop-found l = record { reads : Annotating (seen_from l.tokens l.at) (seen_from l.tokens l.rest); further : l.at ≤ l.rest }

abbrev pub decreases-loop-found : goal.decreases-loop-found
decreases-loop-found l = length l.tokens - l.rest

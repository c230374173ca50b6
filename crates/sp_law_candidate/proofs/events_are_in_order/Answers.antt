use Rattle.std.proofs.Common.{length, refl}
use Rattle.sp_law_candidate.proofs.Listed.{all_listed, stand_behind}
use Rattle.sp_law_candidate.proofs.events_are_in_order.Goals as goal

pub returns : goal.returns
returns c = record {
  all = λ order events listed e. all_listed order (length events) events listed refl e;
  behind = λ order events listed e. stand_behind order (length events) events listed e;
}

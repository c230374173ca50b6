use Rattle.sp_law_run.proofs.Taking.{takes_taken, taken_takes}
use Rattle.sp_law_run.proofs.first_place_will_do.Goals as goal

pub returns : goal.returns
returns c = record {
  found = λ es good wanted facts state rest s h. takes_taken es good wanted facts state rest s h;
  there = λ es good wanted facts state left s e. taken_takes es good wanted facts state left s e;
}

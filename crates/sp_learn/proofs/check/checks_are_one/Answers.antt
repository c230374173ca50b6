use Rattle.sp_learn.proofs.Checks.{one_answer, one_fault, no_log}
use Rattle.sp_learn.proofs.check.checks_are_one.Goals as goal

pub returns : goal.returns
returns c = record {
  answers = λ theory entries answer other a b. one_answer theory entries answer other a b;
  faults = λ theory entries n m clause other f g. one_fault theory entries n m clause other f g;
  excludes = λ theory entries n clause f h. no_log theory entries n clause f h;
}

use Rattle.sp_lex.proofs.One.{tokens_one, before_one, fault_one, not_both}
use Rattle.sp_lex.proofs.texts_are_cut_one_way.Goals as goal

pub returns : goal.returns
returns c = record {
  tokens = λ text ts us h k. tokens_one h k;
  fault = λ text p q k o h i. fault_one h i;
  before = λ text ts us p q k o h i. (before_one h i).0;
  not_both = λ text ts p k h i. not_both h i;
}

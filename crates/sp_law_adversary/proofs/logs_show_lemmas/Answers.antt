use Rattle.sp_law_adversary.proofs.Lemmas.{logs_show}
use Rattle.sp_law_adversary.proofs.logs_show_lemmas.Goals as goal

pub returns : goal.returns
returns c = record {
  all_traces = λ theory has lemma of_executions. (logs_show theory has lemma of_executions).0;
  exists_trace = λ theory has lemma of_executions. (logs_show theory has lemma of_executions).1;
}

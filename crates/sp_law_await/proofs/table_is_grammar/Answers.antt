use Rattle.sp_law_await.proofs.Theories.{spelled_of, had_of}
use Rattle.sp_law_await.proofs.table_is_grammar.Goals as goal

pub returns : goal.returns
returns c = record { sound = λ tokens h. spelled_of h; complete = λ tokens theory h. had_of h }

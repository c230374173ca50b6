use Rattle.sp_law_await.proofs.Live.{good_lives}
use Rattle.sp_law_await.proofs.parts_can_end.Goals as goal

pub returns : goal.returns
returns c = record { ends = λ parts g. let l = good_lives parts g in (l.tokens, l.had) }

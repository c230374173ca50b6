use Rattle.sp_skel.proofs.Table.{methods_back, methods_on, goals_back, goals_on}
use Rattle.sp_skel.proofs.words_are_moves.Goals as goal

pub returns : goal.returns
returns c = record { methods = λ w m. (methods_back w m, methods_on w m); goals = λ w numbers m. (goals_back w numbers m, goals_on w numbers m) }

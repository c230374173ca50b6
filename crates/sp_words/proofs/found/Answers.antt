use Rattle.sp_words.proofs.Asking.{unnamed_asks_nothing}
use Rattle.sp_words.proofs.found.Goals as goal

pub returns-in-None : goal.returns-in-None
returns-in-None c = unnamed_asks_nothing c.args.matches.now c.in-None.ensures.name

use Rattle.sp_words.proofs.Asking.{line_asks_once}
use Rattle.sp_words.proofs.lines_ask_once.Goals as goal

pub returns : goal.returns
returns c = line_asks_once

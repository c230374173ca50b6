use Rattle.sp_law_equal.proofs.Over.{keep_symbols}
use Rattle.sp_law_equal.proofs.symbols_are_kept.Goals as goal

pub returns : goal.returns
returns c = record { each = λ symbols es none_new. keep_symbols symbols es none_new }

use Rattle.sp_law_table.proofs.Made.{tables_suit_lem}
use Rattle.sp_law_table.proofs.tables_suit.Goals as goal

pub returns : goal.returns
returns c = tables_suit_lem

use Rattle.sp_law_printed_log.proofs.TextNames.{texts_have_names_lem}
use Rattle.sp_law_printed_log.proofs.texts_have_names.Goals as goal

pub returns : goal.returns
returns c = texts_have_names_lem

use Rattle.sp_law_log_lines.proofs.Alike.{lines_tell_entries_lem}
use Rattle.sp_law_log_lines.proofs.lines_tell_entries.Goals as goal

pub returns : goal.returns
returns c = lines_tell_entries_lem

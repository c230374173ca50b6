use Rattle.sp_wf.proofs.ReportClean.{report_is_right}
use Rattle.sp_wf.proofs.report_is_right.Goals as goal

pub returns : goal.returns
returns c = report_is_right

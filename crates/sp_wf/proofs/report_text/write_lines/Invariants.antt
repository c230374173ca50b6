use Rattle.std.proofs.Common.{◌≡◌, ◌++◌, drop}
use Rattle.sp_wf.specs.Report as spec
use Rattle.sp_finding.specs.View.{lines_of}
use Rattle.sp_wf.proofs.report_text.write_lines.Given as goal

abbrev pub invariant-loop-line : goal.invariant-loop-line
invariant-loop-line l = l.out.items ++ spec.text_of (lines_of (drop l.line-index l.lines.items)) ≡ l.fn.out.items ++ spec.text_of (lines_of l.lines.items)

use Rattle.std.proofs.Common.{◌≡◌, drop, map}
use Rattle.sp_written.specs.Views as view
use Rattle.sp_finding.specs.Finding.{lines_after}
use Rattle.sp_lines.specs.TextsView.{texts_of}
use Rattle.sp_wf_rules.specs.BindingView.{names_of}
use Rattle.sp_wf.specs.ItemFindings.{with_bound}
use Rattle.sp_wf.specs.Told as told
use Rattle.sp_wf.proofs.told.tell_bound.Given as goal

abbrev pub invariant-loop-place : goal.invariant-loop-place
invariant-loop-place l =
    lines_after (texts_of l.lines) (with_bound (told.on_bound l.fault) (map names_of (drop l.place l.bound.items)) (view.items (drop l.place l.items.items)))
    ≡ lines_after (texts_of l.fn.lines) (with_bound (told.on_bound l.fault) (map names_of l.bound.items) (view.items l.items.items))

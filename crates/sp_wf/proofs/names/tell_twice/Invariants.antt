use Rattle.std.proofs.Common.{◌≡◌, [], drop}
use Rattle.sp_declared.specs.View as declared
use Rattle.sp_finding.specs.Finding.{bound_twice, lines_after}
use Rattle.sp_lines.specs.TextsView.{texts_of}
use Rattle.sp_wf.specs.ItemFindings.{told_again}
use Rattle.sp_wf.specs.Told.{is_one_of, again}
use Rattle.sp_wf.proofs.names.tell_twice.Given as goal

abbrev pub invariant-loop-name : goal.invariant-loop-name
invariant-loop-name l =
    lines_after (texts_of l.lines) (again (bound_twice l.rule) (is_one_of l.seen) (declared.texts_of (drop l.name-index l.bound.bound.items)))
    ≡ lines_after (texts_of l.fn.lines) (told_again (bound_twice l.rule) [] (declared.texts_of l.bound.bound.items))

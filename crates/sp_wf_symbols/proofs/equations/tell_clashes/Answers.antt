use Rattle.std.proofs.Common.{map}
use Rattle.sp_wf_symbols.specs.EquationFindings.{clashes}
use Rattle.sp_finding.specs.Finding.{lines_after}
use Rattle.sp_lines.specs.TextsView.{texts_of}
use Rattle.sp_declared.specs.NumberedView.{numbered_of}
use Rattle.sp_wf_symbols.proofs.EquationForms.{next_clash}
use Rattle.sp_wf_symbols.proofs.equations.tell_clashes.Goals as goal

pub loop-place-preserved : goal.loop-place-preserved
loop-place-preserved c =
    next_clash numbered_of c.deref-first-items.result.now c.deref.result.now c.args.numbered.now.items c.loop-place.place c.first-item.result
    (texts_of c.loop-place.lines) (texts_of c.tell_clashes_with.new.lines) (lines_after (texts_of c.args.lines.now) (clashes (map numbered_of c.args.numbered.now.items)))
    c.deref-first-items.ensures.value c.deref.ensures.value c.loop-place-test.true c.first-item.is c.in_ok-tell_clashes_with.ensures c.loop-place.invariant

use Rattle.std.proofs.Common.{◌≡◌, drop}
use Rattle.sp_written.specs.Views as view
use Rattle.sp_finding.specs.Finding.{lines_after}
use Rattle.sp_lines.specs.TextsView.{texts_of}
use Rattle.sp_wf.specs.ItemFindings.{left_out_of}
use Rattle.sp_wf.proofs.attributes.tell_attributes.Given as goal

abbrev pub invariant-loop-attribute : goal.invariant-loop-attribute
invariant-loop-attribute l =
    lines_after (texts_of l.lines) (left_out_of l.lemma.name.now (view.attributes (drop l.attribute-index l.lemma.attributes.items)))
    ≡ lines_after (texts_of l.fn.lines) (left_out_of l.lemma.name.now (view.attributes l.lemma.attributes.items))

use Rattle.std.proofs.Common.{List, refl, get_or}
use Rattle.std.proofs.lemmas.List.{get_or_default}
use Rattle.sp_spec_text.specs.Written.{Attribute}
use Rattle.sp_written.specs.Views as view
use Rattle.sp_finding.specs.Finding.{Finding, lines_after}
use Rattle.sp_lines.specs.TextsView.{texts_of}
use Rattle.sp_finding.proofs.Stepping.{next_told}
use Rattle.sp_wf.specs.ItemFindings.{left_out_by, left_out_of}
use Rattle.sp_wf.proofs.attributes.tell_attributes.Goals as goal

pub loop-attribute-preserved : goal.loop-attribute-preserved
loop-attribute-preserved c =
    let name = c.args.lemma.now.name.now in
    let all : List Attribute → List Finding = left_out_of name in
    let read = c.deref-attribute-items.result.now in
    let i = c.loop-attribute.attribute-index in
    next_told (left_out_by name) all (λ x xs. refl) view.attribute read c.args.lemma.now.attributes.items i (get_or read i _)
    (texts_of c.loop-attribute.lines) (texts_of c.tell_attribute.new.lines) (lines_after (texts_of c.args.lines.now) (all (view.attributes c.args.lemma.now.attributes.items)))
    c.deref-attribute-items.ensures.value c.loop-attribute-test.true (get_or_default read i _ (get_or read i _) c.loop-attribute-test.true) c.in_ok-tell_attribute.ensures c.loop-attribute.invariant

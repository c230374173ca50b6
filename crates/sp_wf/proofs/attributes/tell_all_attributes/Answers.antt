use Rattle.std.proofs.Common.{List, refl}
use Rattle.sp_spec_text.specs.Written.{Item}
use Rattle.sp_written.specs.Views as view
use Rattle.sp_finding.specs.Finding.{Finding, lines_after}
use Rattle.sp_lines.specs.TextsView.{texts_of}
use Rattle.sp_finding.proofs.Stepping.{next_told}
use Rattle.sp_wf.specs.ItemFindings.{on_items, attributes_in_item}
use Rattle.sp_wf.proofs.attributes.tell_all_attributes.Goals as goal

pub loop-item-preserved : goal.loop-item-preserved
loop-item-preserved c =
    let all : List Item → List Finding = λ xs. on_items attributes_in_item xs in
    next_told attributes_in_item all (λ x xs. refl) view.item c.deref-item-items.result.now c.args.items.now.items c.loop-item.item-index c.item-item.result
    (texts_of c.loop-item.lines) (texts_of c.tell_if_attributes.new.lines) (lines_after (texts_of c.args.lines.now) (all (view.items c.args.items.now.items)))
    c.deref-item-items.ensures.value c.loop-item-test.true c.item-item.is c.in_ok-tell_if_attributes.ensures c.loop-item.invariant

use Rattle.std.proofs.Common.{[], ap}
use Rattle.sp_written.specs.Views as view
use Rattle.sp_finding.specs.Finding.{lines_after}
use Rattle.sp_wf.specs.Told.{is_one_of}
use Rattle.sp_wf.specs.ItemFindings.{repeated}
use Rattle.sp_lines.specs.TextsView.{texts_of}
use Rattle.sp_wf.proofs.NamesBefore.{none_before, no_names, next_name}
use Rattle.sp_wf.proofs.names.tell_names.Goals as goal

pub loop-item-init : goal.loop-item-init
loop-item-init c =
    ap (lines_after (texts_of c.args.lines.now))
    (none_before (is_one_of c.new-rules.result) (is_one_of c.new-statements.result) (view.items c.args.items.now.items) (no_names (texts_of c.new-rules.result) c.new-rules.ensures) (no_names (texts_of c.new-statements.result) c.new-statements.ensures))

pub loop-item-preserved : goal.loop-item-preserved
loop-item-preserved c =
    next_name view.item c.deref-item-items.result.now c.args.items.now.items c.loop-item.item-index c.item-item.result
    (texts_of c.loop-item.lines) (texts_of c.tell_item_name.new.lines) (lines_after (texts_of c.args.lines.now) (repeated [] [] (view.items c.args.items.now.items)))
    (is_one_of c.loop-item.rules) (is_one_of c.tell_item_name.new.rules) (is_one_of c.loop-item.statements) (is_one_of c.tell_item_name.new.statements)
    c.deref-item-items.ensures.value c.loop-item-test.true c.item-item.is c.in_ok-tell_item_name.ensures.is_told c.in_ok-tell_item_name.ensures.in_rules c.in_ok-tell_item_name.ensures.in_statements c.loop-item.invariant

use Rattle.std.proofs.Common.{List}
use Rattle.sp_spec_text.specs.Written.{Item}
use Rattle.sp_written.specs.Views as view
use Rattle.sp_finding.specs.Finding.{Finding, lines_after}
use Rattle.sp_lines.specs.TextsView.{texts_of}
use Rattle.sp_finding.proofs.Stepping.{next_told}
use Rattle.sp_wf_formulas.specs.Statements.{item_statements, statements_in}
use Rattle.sp_wf.specs.ItemFindings.{on_lemmas}
use Rattle.sp_wf.specs.Told.{on_statement}
use Rattle.sp_wf.proofs.ItemSteps.{statement_next}
use Rattle.sp_wf.proofs.told.tell_statements.Goals as goal

pub loop-item-preserved : goal.loop-item-preserved
loop-item-preserved c =
    let all : List Item → List Finding = λ xs. on_lemmas (on_statement c.args.fault) (statements_in xs) in
    next_told (λ x. on_lemmas (on_statement c.args.fault) (item_statements x)) all (statement_next (on_statement c.args.fault)) view.item c.deref-item-items.result.now c.args.items.now.items c.loop-item.item-index c.item-item.result
    (texts_of c.loop-item.lines) (texts_of c.tell_if_statement.new.lines) (lines_after (texts_of c.args.lines.now) (all (view.items c.args.items.now.items)))
    c.deref-item-items.ensures.value c.loop-item-test.true c.item-item.is c.in_ok-tell_if_statement.ensures c.loop-item.invariant

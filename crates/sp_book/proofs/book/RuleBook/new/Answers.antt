use Rattle.sp_book.specs.View.{rule_forms_of}
use Rattle.sp_book.specs.Book.{listed, shown_names, given_names}
use Rattle.sp_book.proofs.Listed.{next_at}
use Rattle.sp_book.proofs.book.RuleBook.new.Goals as goal

pub loop-place-preserved : goal.loop-place-preserved
loop-place-preserved c = (
  λ q. next_at shown_names rule_forms_of c.deref-rule-items.result.now q c.loop-place.place (listed c.loop-place.by_action q) (listed c.note_shown.new.by_action q) c.rule-item.result
      c.loop-place-test.true c.rule-item.is (c.in_ok-note_shown.ensures q) (c.loop-place.invariant.0 q),
  λ q. next_at given_names rule_forms_of c.deref-rule-items.result.now q c.loop-place.place (listed c.loop-place.by_conclusion q) (listed c.note_given.new.by_conclusion q) c.rule-item.result
      c.loop-place-test.true c.rule-item.is (c.in_ok-note_given.ensures q) (c.loop-place.invariant.1 q),
)

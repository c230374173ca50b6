use Rattle.sp_fact.specs.View.{action_of}
use Rattle.sp_book.specs.BookView.{book_of}
use Rattle.sp_system.specs.SystemView.{system_of}
use Rattle.sp_moves_formula.proofs.PassedOver.{none_left_out}
use Rattle.sp_moves_formula.proofs.by_rules.by_each.Goals as goal

pub loop-place-init : goal.loop-place-init
loop-place-init c =
    rw (c.new-made.ensures.items, c.places-place-items.ensures)
    (none_left_out (book_of c.args.rules.now) (system_of c.args.system.now) c.args.time (action_of c.args.action.now))

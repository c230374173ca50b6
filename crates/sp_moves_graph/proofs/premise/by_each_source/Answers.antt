use Rattle.sp_fact.specs.View.{fact_of}
use Rattle.sp_book.specs.BookView.{book_of}
use Rattle.sp_system.specs.SystemView.{system_of}
use Rattle.sp_moves_graph.proofs.PassedOver.{none_left_out}
use Rattle.sp_moves_graph.proofs.premise.by_each_source.Goals as goal

pub loop-place-init : goal.loop-place-init
loop-place-init c =
    rw (c.new-made.ensures.items, c.givers-place-items.ensures)
    (none_left_out (book_of c.args.rules.now) (system_of c.args.system.now) c.args.premise.time c.args.premise.place (fact_of c.args.fact.now))

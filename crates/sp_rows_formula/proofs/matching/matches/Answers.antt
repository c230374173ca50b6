use Rattle.sp_formula.specs.FormulaView.{moment_of}
use Rattle.sp_formula.specs.PlaceView.{placed_action}
use Rattle.sp_rows_formula.specs.SlotsView.{slots_of}
use Rattle.sp_rows_formula.proofs.Matchings.{event_turn}
use Rattle.sp_rows_formula.proofs.matching.matches.Goals as goal

pub loop-event-preserved : goal.loop-event-preserved
loop-event-preserved c =
    event_turn (slots_of c.args.slots.now) (placed_action c.args.action.now) (moment_of c.args.moment) c.deref-event-items.result.now c.loop-event.event-index c.event-item.result
    c.loop-event.found.items c.in_ok-more.more.items c.append.new.self.items _ c.loop-event-test.true c.event-item.is c.in_ok-more.ensures c.in_ok-append.ensures.items c.loop-event.invariant

use Rattle.std.proofs.Common.{◌≡◌, drop, map}
use Rattle.std.specs.List.{list_any}
use Rattle.sp_term.specs.View.{view}
use Rattle.sp_moves_decide.specs.Sought.{term_has}
use Rattle.sp_moves_decide.specs.SoughtView.{sought_of}
use Rattle.sp_moves_decide.proofs.occurring.some_message_has.Given as goal

abbrev pub invariant-loop-message : goal.invariant-loop-message
invariant-loop-message l =
    list_any (term_has (sought_of l.sought)) (map view l.messages.items)
    ≡ list_any (term_has (sought_of l.sought)) (map view (drop l.message-index l.message-items))

use Rattle.std.proofs.Common.{◌≡◌, ◌++◌, drop, map}
use Rattle.sp_fact.specs.GroundView.{ground_action}
use Rattle.sp_learn.specs.View.{entries_of, entry_of}
use Rattle.sp_learn.proofs.Orders.{shown_in}
use Rattle.sp_learn.proofs.trace.visible_trace.Given as goal

abbrev pub invariant-loop-entry : goal.invariant-loop-entry
invariant-loop-entry l =
    map (λ entry. map ground_action entry.items) l.entries.items ++ shown_in (map entry_of (drop l.entry-index l.entry-items)) ≡ shown_in (entries_of l.log)

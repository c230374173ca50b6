use Rattle.std.proofs.Common.{◌≡◌, ◌++◌, drop, map}
use Rattle.sp_spec.specs.Log.{entry_actions}
use Rattle.sp_fact.specs.GroundView.{ground_action}
use Rattle.sp_learn.specs.View.{entries_of, entry_of}
use Rattle.sp_learn.proofs.trace.whole_trace.Given as goal

abbrev pub invariant-loop-entry : goal.invariant-loop-entry
invariant-loop-entry l =
    map (λ entry. map ground_action entry.items) l.entries.items ++ map entry_actions (map entry_of (drop l.entry-index l.entry-items))
    ≡ map entry_actions (entries_of l.log)

use Rattle.std.proofs.Common.{◌≡◌, ◌++◌, true, drop, map, string_bytes}
use Rattle.sp_fact.specs.GroundView.{ground_action}
use Rattle.sp_show.specs.Runs.{actions_run}
use Rattle.sp_show.proofs.trace.write_entry.Given as goal

abbrev pub invariant-loop-action : goal.invariant-loop-action
invariant-loop-action l =
    string_bytes l.out ++ actions_run l.first (map ground_action (drop l.action-index l.action-items)) ≡ string_bytes l.fn.out ++ actions_run true (map ground_action l.entry.items)

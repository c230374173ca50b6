use Rattle.std.proofs.Common.{◌≡◌, ◌++◌, codes, drop, map, string_bytes}
use Rattle.sp_fact.specs.GroundView.{entries_of, ground_action}
use Rattle.sp_spec_printed.specs.Printed.{entries_text}
use Rattle.sp_show.proofs.trace.trace_block.Given as goal

abbrev pub invariant-loop-entry : goal.invariant-loop-entry
invariant-loop-entry l =
    string_bytes l.out ++ entries_text (map (λ entry. map ground_action entry.items) (drop l.entry-index l.entry-items)) ≡ codes "trace:\n" ++ entries_text (entries_of l.trace)

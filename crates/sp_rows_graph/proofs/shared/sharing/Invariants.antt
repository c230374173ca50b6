use Rattle.std.proofs.Common.{◌≡◌}
use Rattle.sp_system.specs.SystemView.{event_of}
use Rattle.sp_rows_graph.specs.SharedView.{share}
use Rattle.sp_rows_graph.proofs.PairSearches.{with_left}
use Rattle.sp_rows_graph.proofs.shared.sharing.Given as goal

abbrev pub invariant-loop-position : goal.invariant-loop-position
invariant-loop-position l =
    let left = with_left event_of (share l.shared) (event_of l.event) l.events.items in
    left l.start ≡ left l.position

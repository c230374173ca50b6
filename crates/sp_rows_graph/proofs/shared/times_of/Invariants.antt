use Rattle.std.proofs.Common.{◌≡◌, map}
use Rattle.sp_system.specs.SystemView.{event_of}
use Rattle.sp_spec_system.specs.Picked.{first_two}
use Rattle.sp_rows_graph.specs.SharedView.{share}
use Rattle.sp_rows_graph.proofs.PairSearches.{two_left}
use Rattle.sp_rows_graph.proofs.shared.times_of.Given as goal

abbrev pub invariant-loop-position : goal.invariant-loop-position
invariant-loop-position l = first_two (share l.shared) (map event_of l.events.items) ≡ two_left event_of (share l.shared) l.events.items l.position

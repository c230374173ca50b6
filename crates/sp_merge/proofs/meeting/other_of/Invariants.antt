use Rattle.std.proofs.Common.{◌≡◌}
use Rattle.sp_system.specs.SystemView.{event_of}
use Rattle.sp_spec_system.specs.MakingOne.{at_times}
use Rattle.sp_merge.proofs.MergingSearches.{merging_left}
use Rattle.sp_merge.proofs.meeting.other_of.Given as goal

abbrev pub invariant-loop-position : goal.invariant-loop-position
invariant-loop-position l = merging_left (at_times l.first l.second) (event_of l.event) l.events.items l.start ≡ merging_left (at_times l.first l.second) (event_of l.event) l.events.items l.position

use Rattle.std.proofs.Common.{◌≡◌, map}
use Rattle.sp_system.specs.SystemView.{event_of}
use Rattle.sp_merge.specs.MadeOneView.{merging_positions}
use Rattle.sp_spec_system.specs.MakingOne.{at_times}
use Rattle.sp_merge.proofs.MergingSearches.{both_left}
use Rattle.sp_merge.proofs.meeting.first_meeting.Given as goal

abbrev pub invariant-loop-position : goal.invariant-loop-position
invariant-loop-position l = merging_positions (at_times l.first l.second) (map event_of l.events.items) ≡ both_left (at_times l.first l.second) l.events.items l.position

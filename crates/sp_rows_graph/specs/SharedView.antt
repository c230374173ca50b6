-- What two events share, so that they have to be one.
use Rattle.std.specs.Prelude.{ℕ, Bool, true, false, ◌&&◌, is_none}
use Rattle.sp_spec_system.specs.System.{Happening, learning, Event, System}
use Rattle.sp_spec_system.specs.MakingOne.{made_one}
use Rattle.sp_spec_graph.specs.Fresh.{shares_fresh}
use Rattle.sp_spec_know.specs.LearnOnce.{learn_same}
use Rattle.sp_rows_graph.specs.FreshView.{may_use_fresh}
use Rattle.sp_rows_graph.specs.declared.shared.Shared.{Shared}
use Rattle.sp_rows_graph.specs.declared.shared.Shared.TheVariants.{Fresh, Learnt}

abbrev pub share : Shared → Event → Event → Bool
share Fresh = shares_fresh
share Learnt = learn_same

abbrev pub is_learning : Happening → Bool
is_learning (learning m way) = true
is_learning h = false

-- the event has what it may share with another one
abbrev pub may_share : Shared → Event → Bool
may_share Fresh e = may_use_fresh e.happening
may_share Learnt e = is_learning e.happening

abbrev pub both_times : Event × Event → ℕ × ℕ
both_times p = (p.0.time, p.1.time)

-- they can't be one
abbrev pub stay_two : Shared → System → Event → Event → Bool
stay_two shared s e d = share shared e d && is_none (made_one s (e.time, d.time))

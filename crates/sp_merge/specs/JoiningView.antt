-- A system in memory in which terms have to be the same and times one, and the turns in which they are.
use Rattle.std.specs.Prelude.{ℕ, List, [], ◌∷◌, ◌++◌, map, Option, Some}
use Rattle.sp_spec_system.specs.System.{Event, System, with_events}
use Rattle.sp_spec_system.specs.Equating.{Merging, order_changed}
use Rattle.sp_spec_system.specs.MakingOne.{at_times, merging_events, learnt_by_at, one_time, with_one_time, with_times, joined}
use Rattle.sp_spec_system.specs.MakingOne as spec
use Rattle.sp_merge.specs.declared.joining.Joining as memory
use Rattle.sp_unify.specs.View.{pair_view}
use Rattle.sp_system.specs.SystemView.{system_of}

abbrev pub joining_of : memory.Joining → spec.Joining
joining_of j = record { system = system_of j.system; pairs = map pair_view j.pairs.items; times = j.times.items }

-- the two times are one in it, whatever happens there
abbrev pub in_one_time : ℕ × ℕ → spec.Joining → spec.Joining
in_one_time p j = record { system = with_one_time p j.system; pairs = j.pairs; times = map (order_changed (one_time p)) j.times }

-- these are its events, at the time of which something is learnt in the way that merging gives; and what else merging gives
abbrev pub with_merging : ℕ → List Event → Merging → spec.Joining → spec.Joining
with_merging i others m j = record {
  system = with_events j.system (learnt_by_at i m.way others);
  pairs = j.pairs ++ m.pairs;
  times = j.times ++ m.times;
}

-- the first of the times that have to be one are made one
abbrev pub next_joining : spec.Joining → List (ℕ × ℕ) → Option spec.Joining
next_joining j [] = Some j
next_joining j (p ∷ times) = joined p (with_times j times) (merging_events (at_times p.0 p.1) j.system.events)

-- the two times have to be one in the system
abbrev pub to_be_one : System → ℕ × ℕ → spec.Joining
to_be_one s p = record { system = s; pairs = []; times = p ∷ [] }

-- What is added to a system so that a message is learnt before a time.
use Rattle.std.specs.Prelude.{ℕ, suc, if◌then◌else◌, [], ◌∷◌, ◌++◌}
use Rattle.sp_spec_system.specs.System.{Event, System, with_events, with_next, with_pairs}
use Rattle.sp_spec_system.specs.Order.{is_before}

-- one time is before another: this is added where it isn't there
abbrev pub put_before : System → ℕ → ℕ → System
put_before s j i = if is_before s.order j i then s else with_pairs s ((j, i) ∷ [])

-- the event is added, and a number is used up
abbrev pub with_next_event : System → Event → System
with_next_event s e = with_next (with_events s (s.events ++ e ∷ [])) (suc s.next)

-- Fresh once: two events that use the same Fr. Source: CSF 2012, "Constraint solving" (fresh names are unique).
-- The elementary move and its contradiction, where they can't be one.
use Rattle.std.specs.Prelude.{ℕ, List, Option, option_map, option_and_then, ◌&&◌, Bool, is_none}
use Rattle.sp_spec_system.specs.System.{Event, System}
use Rattle.sp_spec_system.specs.MakingOne.{made_one}
use Rattle.sp_spec_system.specs.Picked.{first_two, some_two}
use Rattle.sp_spec_graph.specs.Fresh.{shares_fresh}

-- the times of the first two
abbrev pub times_of_fresh : List Event → Option (ℕ × ℕ)
times_of_fresh events = option_map (λ (p : Event × Event). (p.0.time, p.1.time)) (first_two shares_fresh events)

abbrev pub fresh_once : System → Option System
fresh_once s = option_and_then (made_one s) (times_of_fresh s.events)

-- Failing merge: two events that use the same Fr can't be one.
abbrev pub cannot_merge : System → Event → Event → Bool
cannot_merge s e d = shares_fresh e d && is_none (made_one s (e.time, d.time))

abbrev pub fails_to_merge : System → Bool
fails_to_merge s = some_two (cannot_merge s) s.events

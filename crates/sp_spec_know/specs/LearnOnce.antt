-- Learn once: a message is learnt at one time. Source: CSF 2012, "Normal message deduction" (each message is known once).
-- The elementary move and its contradiction, where the learnings can't be one.
use Rattle.std.specs.Prelude.{ℕ, Bool, false, ◌&&◌, List, Option, option_map, option_and_then, is_none}
use Rattle.sp_spec_system.specs.System.{Happening, rule_step, sending, learning, Event, System}
use Rattle.sp_spec_system.specs.MakingOne.{made_one}
use Rattle.sp_spec_system.specs.Picked.{first_two, some_two}
use Rattle.sp_spec_know.specs.Learning.{is_learning_of}

abbrev pub learn_one : Happening → Happening → Bool
learn_one (learning m way) h = is_learning_of m h
learn_one (sending m) h = false
learn_one (rule_step r facts) h = false

abbrev pub learn_same : Event → Event → Bool
learn_same e d = learn_one e.happening d.happening

-- the times of the first two
abbrev pub times_of_learnings : List Event → Option (ℕ × ℕ)
times_of_learnings events = option_map (λ (p : Event × Event). (p.0.time, p.1.time)) (first_two learn_same events)

abbrev pub learn_once : System → Option System
learn_once s = option_and_then (made_one s) (times_of_learnings s.events)

-- Failing merge: two learnings of one message can't be one.
abbrev pub cannot_learn_once : System → Event → Event → Bool
cannot_learn_once s e d = learn_same e d && is_none (made_one s (e.time, d.time))

abbrev pub fails_to_learn : System → Bool
fails_to_learn s = some_two (cannot_learn_once s) s.events

-- A send needs a learn: what is sent was learnt before. Source: CSF 2012, "Normal message deduction" (a message is sent once it is known).
use Rattle.std.specs.Prelude.{ℕ, if◌then◌else◌, Option, Some, None, option_map}
use Rattle.sp_spec.specs.Term.{Variable, Term}
use Rattle.sp_spec_system.specs.System.{Happening, rule_step, sending, learning, Event, System}
use Rattle.sp_spec_system.specs.Picked.{first_some}
use Rattle.sp_spec_know.specs.Learning.{is_unlearnt, learnt_before}

abbrev pub sent : Happening → Option (Term Variable)
sent (sending m) = Some m
sent (rule_step r facts) = None
sent (learning m way) = None

-- a message that was not learnt before that time
abbrev pub if_unlearnt : System → ℕ → Option (Term Variable) → Option (Term Variable × ℕ)
if_unlearnt s i None = None
if_unlearnt s i (Some m) = if is_unlearnt s m i then Some (m, i) else None

abbrev pub unlearnt_sending : System → Event → Option (Term Variable × ℕ)
unlearnt_sending s e = if_unlearnt s e.time (sent e.happening)

abbrev pub send_learnt : System → Option System
send_learnt s = option_map (λ (p : Term Variable × ℕ). learnt_before p.0 p.1 s) (first_some (unlearnt_sending s) s.events)

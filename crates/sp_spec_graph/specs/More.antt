-- The move on a system that may have more events than it names: it has none, or one more, which is none of them. Source: this project's own.
use Rattle.std.specs.Prelude.{ℕ, suc, ◌+◌, if◌then◌else◌, List, [], ◌∷◌, ◌++◌, map, true, Option, Some, None, codes}
use Rattle.sp_spec.specs.Signature.{msg}
use Rattle.sp_spec.specs.Guarded.{free_time, same_time, Guarded, fails}
use Rattle.sp_spec_forms.specs.Numbering.{Form}
use Rattle.sp_spec_forms.specs.Forms.{RuleForms}
use Rattle.sp_spec_system.specs.System.{anyhow, Happening, rule_step, sending, learning, Event, System, with_events, with_formulas, with_next, with_closed}
use Rattle.sp_spec_system.specs.Cases.{renamed, named}
use Rattle.sp_spec_system.specs.Move.{Case}

-- the new time is none of those of the events
abbrev pub apart_from : ℕ → Event → Guarded
apart_from i e = fails (same_time (free_time i) (free_time e.time))

-- a new event at the next number, and with so many variables of the numbers behind it
abbrev pub with_another : System → Happening → ℕ → System
with_another s h n =
    with_next (with_formulas (with_events s (s.events ++ record { time = s.next; happening = h } ∷ [])) (s.formulas ++ map (apart_from s.next) s.events)) (suc s.next + n)

abbrev pub another_step : System → List ℕ → Form → System
another_step s name form = with_another s (rule_step name (renamed (suc s.next) form.facts)) form.count

-- by each form of each rule
abbrev pub each_step : List RuleForms → System → List Case
each_step [] s = []
each_step (rule ∷ rules) s = named rule.name (map (another_step s rule.name) rule.forms) ++ each_step rules s

abbrev pub more_cases : List RuleForms → System → Option (List Case)
more_cases rules s =
    if s.closed then None else Some (
    record { name = codes "closed"; system = with_closed s true }
    ∷ (each_step rules s
    ++ record { name = codes "Send"; system = with_another s (sending (msg (suc s.next))) 1 }
    ∷ record { name = codes "Learn"; system = with_another s (learning (msg (suc s.next)) anyhow) 1 } ∷ []))

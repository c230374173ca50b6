-- A system with one more event, and the cases that the forms of one rule give.
use Rattle.std.specs.Prelude.{ℕ, suc, ◌+◌, List, [], ◌∷◌, ◌++◌, map}
use Rattle.sp_spec_forms.specs.Forms.{RuleForms}
use Rattle.sp_spec_system.specs.System.{Event, System, with_events, with_formulas, with_next}
use Rattle.sp_spec_system.specs.Cases.{named}
use Rattle.sp_spec_system.specs.Move.{Case}
use Rattle.sp_spec_graph.specs.More.{apart_from, another_step}

-- the event, whose time is the next number, and with so many variables of the numbers behind it
abbrev pub with_event : System → Event → ℕ → System
with_event s e n = with_next (with_formulas (with_events s (s.events ++ e ∷ [])) (s.formulas ++ map (apart_from s.next) s.events)) (suc s.next + n)

abbrev pub by_rule : RuleForms → System → List Case
by_rule r s = named r.name (map (another_step s r.name) r.forms)

-- Why a move is no instance, and the cases of the move that takes up a premise.
use Rattle.std.specs.Prelude.{ℕ, ◌||◌, if◌then◌else◌, List, Option, Some, None, slice_get}
use Rattle.sp_spec.specs.Term.{Variable}
use Rattle.sp_spec.specs.Rule.{Fact}
use Rattle.sp_spec.specs.Log.{is_fr, is_in}
use Rattle.sp_spec_system.specs.System.{Happening, rule_step, Event, System}
use Rattle.sp_spec_system.specs.MakingOne.{event_at}
use Rattle.sp_spec_system.specs.Move.{Move, premise, Case}
use Rattle.sp_spec_graph.specs.Premise.{is_linked, open_premise, premise_cases}
use Rattle.sp_moves.specs.Clause.{Clause, another_crate, absent, other_kind, condition}
use Rattle.sp_spec_system.specs.Occurring.{has_time}
use Rattle.sp_spec_forms.specs.Forms.{RuleForms}

-- the premise of that time and place, if its event has so many
abbrev pub why_not_open : System → ℕ → ℕ → Option (Fact Variable) → Option Clause
why_not_open s i p None = Some absent
why_not_open s i p (Some f) = if is_linked s.links i p || (is_fr f || is_in f) then Some condition else None

-- only a step of a rule has premises
abbrev pub why_not_at : System → ℕ → ℕ → Happening → Option Clause
why_not_at s i p (rule_step r facts) = why_not_open s i p (slice_get facts.premises p)
why_not_at s i p h = Some other_kind

-- the event of that time, if there is one
abbrev pub why_not_of : System → ℕ → ℕ → Option Event → Option Clause
why_not_of s i p None = Some other_kind
why_not_of s i p (Some e) = why_not_at s i p e.happening

abbrev pub why_not_graph : System → Move → Option Clause
why_not_graph s (premise i p) = if has_time i s then why_not_of s i p (event_at i s.events) else Some absent
why_not_graph s move = Some another_crate

-- the cases of such a move before they are simplified; none where it is no instance
abbrev pub graph_cases : List RuleForms → System → Move → Option (List Case)
graph_cases rules s (premise i p) = premise_cases rules s i p (open_premise s i p)
graph_cases rules s move = None

-- Send for an In premise: what a premise In takes the adversary sends before. Source: CSF 2012, "Constraint solving" (premises of protocol rules).
use Rattle.std.specs.Prelude.{ℕ, suc, not, ◌&&◌, if◌then◌else◌, List, [], ◌∷◌, ◌++◌, Option, None, option_map}
use Rattle.std.specs.Option.{option_or}
use Rattle.sp_spec.specs.Term.{Variable, Term}
use Rattle.sp_spec.specs.Rule.{Fact}
use Rattle.sp_spec.specs.Log.{is_in}
use Rattle.sp_spec_system.specs.System.{sending, Event, Link, System, happening_premises, with_links, with_pairs}
use Rattle.sp_spec_system.specs.Picked.{first_some, only_term}
use Rattle.sp_spec_know.specs.Learning.{with_event}
use Rattle.sp_spec_graph.specs.Premise.{is_linked}

-- a premise In, by its event's time and its place, and its message
pub record Input : Type 0 where
  pub time : ℕ
  pub premise : ℕ
  pub message : Term Variable

abbrev pub input_at : List Link → ℕ → ℕ → Fact Variable → Option Input
input_at links i p f =
    if is_in f && not (is_linked links i p) then option_map (λ m. record { time = i; premise = p; message = m }) (only_term f.args) else None

-- the first of the premises from a place on that is an In without a link
abbrev pub input_from : List Link → ℕ → ℕ → List (Fact Variable) → Option Input
input_from links i p [] = None
input_from links i p (f ∷ fs) = option_or (input_at links i p f) (input_from links i (suc p) fs)

abbrev pub open_input : List Link → Event → Option Input
open_input links e = input_from links e.time 0 (happening_premises e.happening)

-- its message is sent at the next number, before it is taken
abbrev pub with_sending : System → Input → System
with_sending s x =
    with_event
    (with_pairs (with_links s (s.links ++ record { from = s.next; conclusion = 0; to = x.time; premise = x.premise } ∷ [])) ((s.next, x.time) ∷ []))
    (sending x.message)

abbrev pub send_input : System → Option System
send_input s = option_map (with_sending s) (first_some (open_input s.links) s.events)

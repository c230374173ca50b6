-- A move on a premise has cases exactly where no clause of its condition fails.
use Rattle.std.proofs.Common.{◌≡◌, ℕ, Bool, true, false, ◌||◌, if◌then◌else◌, List, Option, Some, None, option_and_then, is_none, is_some, slice_get, refl, sym, ap, ◌∙◌}
use Rattle.sp_spec.specs.Term.{Variable}
use Rattle.sp_spec.specs.Rule.{Fact}
use Rattle.sp_spec.specs.Log.{is_fr, is_in}
use Rattle.sp_spec_system.specs.System.{Happening, rule_step, sending, learning, happening_premises, Event, System}
use Rattle.sp_spec_system.specs.MakingOne.{event_at}
use Rattle.sp_spec_system.specs.Move.{Move, premise}
use Rattle.sp_spec_graph.specs.Premise.{is_linked, of_a_step, open_premise, premise_cases}
use Rattle.sp_moves.specs.Clause.{Clause, absent, condition, HasCases}
use Rattle.sp_spec_system.specs.Occurring.{has_time}
use Rattle.sp_moves.proofs.NoEvent.{no_time}
use Rattle.sp_moves_graph.specs.WhyNot.{why_not_open, why_not_at, why_not_of, why_not_graph, graph_cases}
use Rattle.sp_spec_forms.specs.Forms.{RuleForms}

by_fact : (rules : List RuleForms) (s : System) (i p : ℕ) (f : Fact Variable) (linked closed : Bool)
    → is_none (let r : Option Clause = if linked || closed then Some condition else None in r)
    ≡ is_some (premise_cases rules s i p (let r : Option (Fact Variable) = if linked then None else (if closed then None else Some f) in r))
by_fact rules s i p f true closed = refl
by_fact rules s i p f false true = refl
by_fact rules s i p f false false = refl

nothing_there : (rules : List RuleForms) (s : System) (i p : ℕ) (linked : Bool) → is_some (premise_cases rules s i p (let r : Option (Fact Variable) = if linked then None else None in r)) ≡ false
nothing_there rules s i p true = refl
nothing_there rules s i p false = refl

by_premise : (rules : List RuleForms) (s : System) (i p : ℕ) (o : Option (Fact Variable))
    → is_none (why_not_open s i p o) ≡ is_some (premise_cases rules s i p (let r : Option (Fact Variable) = if is_linked s.links i p then None else of_a_step o in r))
by_premise rules s i p None = sym (nothing_there rules s i p (is_linked s.links i p))
by_premise rules s i p (Some f) = by_fact rules s i p f (is_linked s.links i p) (is_fr f || is_in f)

by_happening : (rules : List RuleForms) (s : System) (i p : ℕ) (h : Happening)
    → is_none (why_not_at s i p h)
    ≡ is_some (premise_cases rules s i p (let r : Option (Fact Variable) = if is_linked s.links i p then None else of_a_step (slice_get (happening_premises h) p) in r))
by_happening rules s i p (rule_step r facts) = by_premise rules s i p (slice_get facts.premises p)
by_happening rules s i p (sending m) = sym (nothing_there rules s i p (is_linked s.links i p))
by_happening rules s i p (learning m way) = sym (nothing_there rules s i p (is_linked s.links i p))

-- the premise at a place of the event that is found
abbrev of_event : ℕ → Option Event → Option (Fact Variable)
of_event p o = option_and_then (λ (e : Event). slice_get (happening_premises e.happening) p) o

by_event : (rules : List RuleForms) (s : System) (i p : ℕ) (o : Option Event)
    → is_none (why_not_of s i p o) ≡ is_some (premise_cases rules s i p (let r : Option (Fact Variable) = if is_linked s.links i p then None else of_a_step (of_event p o) in r))
by_event rules s i p None = sym (nothing_there rules s i p (is_linked s.links i p))
by_event rules s i p (Some e) = by_happening rules s i p e.happening

by_time : (rules : List RuleForms) (s : System) (i p : ℕ) (b : Bool) → has_time i s ≡ b
    → is_none (let r : Option Clause = if b then why_not_of s i p (event_at i s.events) else Some absent in r) ≡ is_some (premise_cases rules s i p (open_premise s i p))
by_time rules s i p true e = by_event rules s i p (event_at i s.events)
by_time rules s i p false e =
    sym (ap (λ (o : Option Event). is_some (premise_cases rules s i p (let r : Option (Fact Variable) = if is_linked s.links i p then None else of_a_step (of_event p o) in r)))
    (no_time i s e)
    ∙ nothing_there rules s i p (is_linked s.links i p))

pub exactly : (rules : List RuleForms) (s : System) (m : Move) → HasCases (why_not_graph s m) (graph_cases rules s m)
exactly rules s (premise i p) = record { exact = by_time rules s i p (has_time i s) refl }
exactly rules s move = record { exact = refl }

-- Constraint systems. Source: CSF 2012, "Constraint solving" (constraint systems); Schmidt's thesis, chapter 3; Meier's thesis, chapter 3.
use Rattle.std.specs.Prelude.{ℕ, Bool, false, Option, None, List, [], ◌∷◌, ◌++◌}
use Rattle.sp_spec.specs.Term.{Variable, Term}
use Rattle.sp_spec.specs.Rule.{Facts, Fact, Action, sends, learns, in_of}
use Rattle.sp_spec.specs.Guarded.{Guarded}

-- How a message is learnt, as far as that is settled: anyhow; as a public name, as a fresh name of the adversary's own, by applying a symbol; or by a
-- chain of messages from the argument of an Out conclusion, which is told by the time of its event and by its place: one that begins with these
-- messages, or one that has no more. Source: CSF 2012, "Normal message deduction".
pub data Way : Type 0 where
  anyhow : Way
  public_name : Way
  own_name : Way
  constructed : Way
  chain_begun : ℕ → ℕ → List (Term Variable) → Way
  chain_done : ℕ → ℕ → List (Term Variable) → Way

-- what happens at an event
pub data Happening : Type 0 where
  -- a rule, by its name, with these facts
  rule_step : List ℕ → Facts Variable → Happening
  -- the adversary sends a message
  sending : Term Variable → Happening
  -- the adversary learns a message in this way
  learning : Term Variable → Way → Happening

-- its facts, as the log shows them: those of the rule; or what is sent, which is an In; or what is learnt
abbrev pub happening_facts : Happening → Facts Variable
happening_facts (rule_step r facts) = facts
happening_facts (sending m) = record { premises = []; actions = sends m ∷ []; conclusions = in_of m ∷ [] }
happening_facts (learning m way) = record { premises = []; actions = learns m ∷ []; conclusions = [] }

abbrev pub happening_premises : Happening → List (Fact Variable)
happening_premises h = (happening_facts h).premises

abbrev pub happening_actions : Happening → List (Action Variable)
happening_actions h = (happening_facts h).actions

pub record Event : Type 0 where
  pub time : ℕ
  pub happening : Happening

-- Where a premise comes from: what an event concludes at a place is the premise at a place of another event. The events are told by their
-- times, and places are counted from 0.
pub record Link : Type 0 where
  pub from : ℕ
  pub conclusion : ℕ
  pub to : ℕ
  pub premise : ℕ

-- Message variables and times share the numbers; the next one is used by nothing yet. Spent formulas hold too. Of an order pair the
-- first time is before the second. At most one time is said to be the last one. In a closed system nothing happens but its events.
pub record System : Type 0 where
  pub events : List Event
  pub formulas : List Guarded
  pub spent : List Guarded
  pub unequal : List (Term Variable × Term Variable)
  pub links : List Link
  pub order : List (ℕ × ℕ)
  pub last : Option ℕ
  pub closed : Bool
  pub next : ℕ

-- a system with another part in the place of its own
abbrev pub with_events : System → List Event → System
with_events s x = record s { events = x }

abbrev pub with_formulas : System → List Guarded → System
with_formulas s x = record s { formulas = x }

abbrev pub with_spent : System → List Guarded → System
with_spent s x = record s { spent = x }

abbrev pub with_unequal : System → List (Term Variable × Term Variable) → System
with_unequal s x = record s { unequal = x }

abbrev pub with_links : System → List Link → System
with_links s x = record s { links = x }

abbrev pub with_order : System → List (ℕ × ℕ) → System
with_order s x = record s { order = x }

abbrev pub with_last : System → Option ℕ → System
with_last s x = record s { last = x }

abbrev pub with_closed : System → Bool → System
with_closed s x = record s { closed = x }

abbrev pub with_next : System → ℕ → System
with_next s x = record s { next = x }

-- with more order pairs
abbrev pub with_pairs : System → List (ℕ × ℕ) → System
with_pairs s pairs = with_order s (s.order ++ pairs)

-- nothing but these formulas
abbrev pub formulas_alone : List Guarded → System
formulas_alone fs = record { events = []; formulas = fs; spent = []; unequal = []; links = []; order = []; last = None; closed = false; next = 0 }

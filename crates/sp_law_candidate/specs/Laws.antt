-- What holds of the log that a system suggests, and which systems suggest one. Source: CSF 2012, "Constraint solving" (solved systems have
-- solutions).
use Rattle.std.specs.Prelude.{◌≡◌, ℕ, true, false, List, [], ◌∷◌, Some}
use Rattle.std.specs.List.Sorted.{IsPermutation}
use Rattle.sp_spec.specs.Lists.{Member, Every, AtPlace}
use Rattle.sp_spec.specs.Term.{Variable, constant}
use Rattle.sp_spec.specs.Signature.{RespectsSorts}
use Rattle.sp_spec.specs.Rule.{Fact, Action}
use Rattle.sp_spec.specs.Guarded.{Place, holds, acts, free_time}
use Rattle.sp_spec.specs.Log.{Entry, is_fr}
use Rattle.sp_spec_system.specs.System.{Event, Link, System, happening_premises}
use Rattle.sp_spec_system.specs.Order.{is_before, is_cyclic}
use Rattle.sp_spec_solved.specs.Listing.{in_order}
use Rattle.sp_spec_solved.specs.Naming.{in_events, values_of}
use Rattle.sp_spec_solved.specs.Candidate.{is_settled, first_link, candidate}

-- no event is before one that stands in front of it, or before itself
abbrev pub StandBehind : List (ℕ × ℕ) → List Event → Type 0
StandBehind order [] = Unit {0}
StandBehind order (e ∷ es) = Every (λ (f : Event). is_before order f.time e.time ≡ false) (e ∷ es) × StandBehind order es

-- the events are listed each as often as it stands among them, and behind those that are before it
pub record EventsAreInOrder : Type 0 where
  pub all : (order : List (ℕ × ℕ)) (events listed : List Event) → in_order order events ≡ Some listed → IsPermutation events listed
  pub behind : (order : List (ℕ × ℕ)) (events listed : List Event) → in_order order events ≡ Some listed → StandBehind order listed

-- the names of variables that stand in the events are of their sorts, differ from each other, and are none of the theory's, however many there are
pub record NamesAreApart : Type 0 where
  pub sorts : (constants : List (List ℕ)) (events : List Event) → RespectsSorts (values_of constants events)
  pub apart : (constants : List (List ℕ)) (events : List Event) (x y : Variable) → Member x (in_events events) → Member y (in_events events)
      → values_of constants events x ≡ values_of constants events y → x ≡ y
  pub others : (constants : List (List ℕ)) (events : List Event) (x : Variable) → Member x (in_events events)
      → (c : List ℕ) → Member c constants → values_of constants events x ≡ constant c → ⊥

-- the first link to the premise is from the time of an event
abbrev pub HasSourceEvent : System → ℕ → ℕ → Type 0
HasSourceEvent s i p = (l : Link) × (first_link s.links i p ≡ Some l) × (e : Event) × Member e s.events × (e.time ≡ l.from)

-- for each event it is settled how what it learns is learnt, each premise is an Fr or has a link from an event, each action that is to happen has an
-- event at its time, and no time is before itself
pub record IsListable (s : System) : Type 0 where
  pub settled : (e : Event) → Member e s.events → is_settled e.happening ≡ true
  pub given : (e : Event) → Member e s.events → (p : ℕ) (f : Fact Variable) → AtPlace (happening_premises e.happening) p f → is_fr f ≡ false → HasSourceEvent s e.time p
  pub placed : (a : Action Place) (i : ℕ) → Member (holds (acts a (free_time i))) s.formulas → (e : Event) × Member e s.events × (e.time ≡ i)
  pub acyclic : is_cyclic s.order ≡ false

-- these systems suggest a log, whatever names the theory has, and no others do
pub record SolvedSystemsSuggestLogs : Type 0 where
  pub suggest : (constants : List (List ℕ)) (s : System) → IsListable s → (entries : List Entry) × (candidate constants s ≡ Some entries)
  pub no_others : (constants : List (List ℕ)) (s : System) (entries : List Entry) → candidate constants s ≡ Some entries → IsListable s

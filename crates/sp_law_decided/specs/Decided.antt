-- Systems in which nothing is left to decide. Source: CSF 2012, "Constraint solving" (solved systems); what is decided besides is this project's own.
use Rattle.std.specs.Prelude.{◌≡◌, ◌⊎◌, ℕ, true, false, flat_map, List, ◌++◌, map}
use Rattle.sp_spec.specs.Lists.{Member, Every, AtPlace}
use Rattle.sp_spec.specs.Term.{Msg, Pub, Variable, Term, var, constant}
use Rattle.sp_spec.specs.Rule.{Fact, Action}
use Rattle.sp_spec.specs.Guarded.{Place, holds, acts, free_time}
use Rattle.sp_spec.specs.Log.{is_fr}
use Rattle.sp_spec_system.specs.System.{Event, Link, System, happening_premises}
use Rattle.sp_spec_system.specs.Order.{is_before}
use Rattle.sp_spec_system.specs.Occurring.{event_times}
use Rattle.sp_spec_system.specs.Numbered.{names_in, InEvent, HappenOnce}
use Rattle.sp_spec_solved.specs.Candidate.{is_settled}
use Rattle.sp_spec_solved.specs.Naming.{in_events}
use Rattle.sp_law_exchange.specs.Laws.{any_variable, any_time}

-- the times of which the entries of a log tell: those of events, of the steps at which chains begin, and of those at which links begin
abbrev pub told_times : System → List ℕ
told_times s = flat_map event_times s.events ++ map (λ (l : Link). l.from) s.links

-- the two stand as an unequal pair, in one order or in the other
abbrev pub StandApart : System → Term Variable → Term Variable → Type 0
StandApart s t u = Member (t, u) s.unequal ⊎ Member (u, t) s.unequal

-- a link leads to the premise
abbrev pub HasLink : System → ℕ → ℕ → Type 0
HasLink s i p = (l : Link) × Member l s.links × (l.to ≡ i) × (l.premise ≡ p)

-- Nothing is left to decide in the system. The constants are those of the theory and of the system.
pub record IsDecided (constants : List (List ℕ)) (s : System) : Type 0 where
  -- nothing happens but its events, and no two of these have one time
  pub closed : s.closed ≡ true
  pub once : HappenOnce s.events
  -- of two different times one is before the other
  pub compared : (i j : ℕ) → Member i (told_times s) → Member j (told_times s) → (i ≡ j → ⊥) → (is_before s.order i j ≡ true) ⊎ (is_before s.order j i ≡ true)
  -- events have names among these constants, no fresh ones, and no variable of sort msg
  pub names : Every (InEvent (names_in constants) any_variable any_time) s.events
  pub named : (x : Variable) → Member x (in_events s.events) → x.sort ≡ Msg → ⊥
  -- two variables of one sort are apart, and so are a public one and a constant
  pub apart : (x y : Variable) → Member x (in_events s.events) → Member y (in_events s.events) → x.sort ≡ y.sort → (x ≡ y → ⊥) → StandApart s (var x) (var y)
  pub others : (x : Variable) → Member x (in_events s.events) → x.sort ≡ Pub → (c : List ℕ) → Member c constants → StandApart s (var x) (constant c)
  -- it is settled how each message is learnt, each premise is an Fr or has a link, and each action that is to happen has an event
  pub settled : (e : Event) → Member e s.events → is_settled e.happening ≡ true
  pub linked : (e : Event) → Member e s.events → (p : ℕ) (f : Fact Variable) → AtPlace (happening_premises e.happening) p f → is_fr f ≡ false → HasLink s e.time p
  pub placed : (a : Action Place) (i : ℕ) → Member (holds (acts a (free_time i))) s.formulas → (e : Event) × Member e s.events × (e.time ≡ i)

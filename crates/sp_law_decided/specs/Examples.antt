-- A decided system with a solution; and two systems of which one thing alone isn't decided, whose solutions are over other logs than they suggest. Source: this
-- project's own.
use Rattle.std.specs.Prelude.{◌≡◌, ℕ, zero, suc, true, false, List, [], ◌∷◌, map, codes, Some, None}
use Rattle.sp_spec.specs.Term.{Sort, Msg, Fresh, Pub, Variable, var, constant, name, none, more, Ground}
use Rattle.sp_spec.specs.Rule.{Facts, Rule, fr, out_of, facts_at}
use Rattle.sp_spec.specs.Lists.{newest_first}
use Rattle.sp_spec.specs.Theory.{Theory}
use Rattle.sp_spec.specs.Log.{Entry, Log, step, learn, fresh_rule, by_chain, IsLog}
use Rattle.sp_spec_system.specs.System.{rule_step, learning, chain_done, Event, System}
use Rattle.sp_spec_system.specs.Solutions.{Valuation, Solves}
use Rattle.sp_spec_solved.specs.Naming.{public_name}
use Rattle.sp_spec_solved.specs.Candidate.{candidate}
use Rattle.sp_spec_system.specs.Numbered.{names_in, HappenOnce, IsNumbered}
use Rattle.sp_law_exchange.specs.Renaming.{log_renamed}
use Rattle.sp_law_exchange.specs.Exchange.{Exchange, exchanges}
use Rattle.sp_law_decided.specs.Decided.{told_times, IsDecided}
use Rattle.sp_law_decided.specs.Test.{are_compared, all_else}

abbrev pub fresh_variable : Variable
fresh_variable = record { sort = Fresh; number = 0 }

abbrev pub public_variable : Variable
public_variable = record { sort = Pub; number = 1 }

-- [ Fr(~x) ] --[ A(~x, $y) ]-> [ Out(~x) ]
abbrev pub new_facts : Facts Variable
new_facts = record {
  premises = fr (var fresh_variable) ∷ [];
  actions = record { symbol = codes "A"; args = more (var fresh_variable) (more (var public_variable) none) } ∷ [];
  conclusions = out_of (var fresh_variable) ∷ [];
}

abbrev pub new_rule : Rule
new_rule = record { name = codes "New"; variables = record { name = codes "x"; sort = Fresh } ∷ record { name = codes "y"; sort = Pub } ∷ []; facts = new_facts }

-- [ ] --> [ ]
abbrev pub no_facts : Facts Variable
no_facts = record { premises = []; actions = []; conclusions = [] }

abbrev pub idle_rule : Rule
idle_rule = record { name = codes "Idle"; variables = []; facts = no_facts }

abbrev pub theory : Theory
theory = record { symbols = []; equations = []; rules = new_rule ∷ idle_rule ∷ []; restrictions = []; lemmas = [] }

abbrev pub constants : List (List ℕ)
constants = codes "c" ∷ []

-- a new name is learnt out of what the step concludes; the public variable is none of the constants
abbrev pub learnt_system : System
learnt_system = record {
  events =
      record { time = 0; happening = rule_step (codes "New") new_facts } ∷ record { time = 1; happening = learning (var fresh_variable) (chain_done 0 0 (var fresh_variable ∷ [])) } ∷ [];
  formulas = [];
  spent = [];
  unequal = (var public_variable, constant (codes "c")) ∷ [];
  links = [];
  order = (0, 1) ∷ [];
  last = None;
  closed = true;
  next = 2;
}

-- ~n5 and 'b', and the positions are the times
abbrev pub value : Sort → Ground
value Msg = constant (codes "b")
value Fresh = name 5
value Pub = constant (codes "b")

abbrev pub valuation : Valuation
valuation = record { terms = λ (z : Variable). value z.sort; times = λ i. i }

abbrev pub learnt_log : Log
learnt_log = learn (name 5) (by_chain 0 0 (name 5 ∷ [])) ∷ step (codes "New") (facts_at valuation.terms new_facts) (fresh_rule ∷ []) ∷ []

abbrev pub named : Sort → Ground
named Msg = constant (public_name 1)
named Fresh = name 1
named Pub = constant (public_name 1)

-- the oldest first, with ~n1 and 'a1'
abbrev pub learnt_entries : List Entry
learnt_entries = step (codes "New") (facts_at (λ (z : Variable). named z.sort) new_facts) (fresh_rule ∷ []) ∷ learn (name 1) (by_chain 0 0 (name 1 ∷ [])) ∷ []

pub record DecidedSystemsHaveSolutions : Type 0 where
  pub decided : IsDecided constants learnt_system
  pub log : IsLog theory learnt_log
  pub solves : Solves theory learnt_log valuation learnt_system
  pub suggested : candidate constants learnt_system ≡ Some learnt_entries

-- ---- two events at one time

abbrev pub idle_event : Event
idle_event = record { time = 0; happening = rule_step (codes "Idle") no_facts }

abbrev pub twice_system : System
twice_system = record { events = idle_event ∷ idle_event ∷ []; formulas = []; spent = []; unequal = []; links = []; order = []; last = None; closed = true; next = 1 }

abbrev pub idle_entry : Entry
idle_entry = step (codes "Idle") (facts_at valuation.terms no_facts) []

-- Only that no two events have one time fails of what is decided: and two entries are suggested where the solution's log has one.
pub record TimesAreToDiffer : Type 0 where
  pub fails : HappenOnce twice_system.events → ⊥
  pub compared : are_compared twice_system.order (told_times twice_system) ≡ true
  pub passes : all_else [] twice_system ≡ true
  pub numbered : IsNumbered (names_in []) twice_system
  pub log : IsLog theory (idle_entry ∷ [])
  pub solves : Solves theory (idle_entry ∷ []) valuation twice_system
  pub suggested : candidate [] twice_system ≡ Some (idle_entry ∷ idle_entry ∷ [])
  pub none : (es : List Exchange) → log_renamed (exchanges es) (idle_entry ∷ []) ≡ newest_first (idle_entry ∷ idle_entry ∷ []) → ⊥

-- ---- a chain that begins at a time of no event

abbrev pub chain_system : System
chain_system = record {
  events =
      idle_event ∷ record { time = 1; happening = rule_step (codes "New") new_facts }
      ∷ record { time = 2; happening = learning (var fresh_variable) (chain_done 3 0 (var fresh_variable ∷ [])) } ∷ [];
  formulas = [];
  spent = [];
  unequal = (var public_variable, constant (codes "c")) ∷ [];
  links = [];
  order = (0, 1) ∷ (1, 2) ∷ [];
  last = None;
  closed = true;
  next = 4;
}

-- that time has the position of the second event
abbrev pub position : ℕ → ℕ
position zero = 0
position (suc zero) = 1
position (suc (suc zero)) = 2
position (suc (suc (suc i))) = 1

abbrev pub chain_valuation : Valuation
chain_valuation = record { terms = λ (z : Variable). value z.sort; times = position }

abbrev pub chain_log : Log
chain_log = learn (name 5) (by_chain 1 0 (name 5 ∷ [])) ∷ step (codes "New") (facts_at valuation.terms new_facts) (fresh_rule ∷ []) ∷ idle_entry ∷ []

abbrev pub chain_entries : List Entry
chain_entries =
    idle_entry ∷ step (codes "New") (facts_at (λ (z : Variable). named z.sort) new_facts) (fresh_rule ∷ [])
    ∷ learn (name 1) (by_chain 0 0 (name 1 ∷ [])) ∷ []

-- Only that the chain's time is compared fails of what is decided: and the chain that is suggested begins at another entry.
pub record ChainTimesAreToBeCompared : Type 0 where
  pub once : HappenOnce chain_system.events
  pub compared : are_compared chain_system.order (map (λ (e : Event). e.time) chain_system.events) ≡ true
  pub fails : are_compared chain_system.order (told_times chain_system) ≡ false
  pub passes : all_else constants chain_system ≡ true
  pub numbered : IsNumbered (names_in constants) chain_system
  pub log : IsLog theory chain_log
  pub solves : Solves theory chain_log chain_valuation chain_system
  pub suggested : candidate constants chain_system ≡ Some chain_entries
  pub none : (es : List Exchange) → log_renamed (exchanges es) chain_log ≡ newest_first chain_entries → ⊥

-- Executions. Source: CSF 2012, "Labeled multiset rewriting" and "Adversary"; Tamarin manual, "Built-in rules": the fresh rule,
-- and the rules by which the adversary takes what is sent, sends what is known, and applies symbols.
use Rattle.std.specs.Prelude.{◌≡◌, ℕ, List, [], ◌∷◌, ◌++◌, if◌then◌else◌}
use Rattle.sp_spec.specs.Lists.{Member}
use Rattle.sp_spec.specs.Term.{Msg, Fresh, Pub, app, none, more, Ground, Grounds, count, Values}
use Rattle.sp_spec.specs.Signature.{Equation, Signature, HasPublic, AreOver, IsValue, IsValuation}
use Rattle.sp_spec.specs.Rule.{Fact, Action, Facts, Rule, facts_at, SameFact, Gives, fr, in_of, out_of, knows, sends}
use Rattle.sp_spec.specs.Theory.{Theory, signature_of}

-- one instance of a rule
pub data Step : Type 0 where
  -- a fresh name is made
  make_fresh : Ground → Step
  -- a rule of the theory, by its name, with the values of its variables by theirs
  use_rule : List ℕ → List (List ℕ × Ground) → Step
  -- the adversary takes what was put out, puts in what is known, knows a public name, makes a fresh name its own,
  -- and applies a symbol to what is known
  take_out : Ground → Step
  put_in : Ground → Step
  know_public : Ground → Step
  make_own : Ground → Step
  apply_symbol : List ℕ → Grounds → Step

-- the facts that are there, as often as they stand in the list, and the fresh names made so far
pub record State : Type 0 where
  pub facts : List (Fact ⊥)
  pub made : List Ground

abbrev pub known_all : Grounds → List (Fact ⊥)
known_all none = []
known_all (more t ts) = knows t ∷ known_all ts

-- the rule or the symbol is one of the theory's; a private symbol is none that the adversary may apply
abbrev pub IsNamed : Theory → Step → Type 0
IsNamed theory (use_rule name given) = (r : Rule) × Member r theory.rules × (r.name ≡ name)
IsNamed theory (apply_symbol f ts) = HasPublic (signature_of theory).symbols f (count ts)
IsNamed theory step = Unit {0}

-- the step is the instance with these facts; the values are those of the rule's variables
abbrev pub IsInstance : Theory → Step → Values → Facts ⊥ → Type 0
IsInstance theory (use_rule name given) v facts = (r : Rule) × Member r theory.rules × (r.name ≡ name) × Gives 0 r.variables given v × (facts ≡ facts_at v r.facts)
IsInstance theory (make_fresh t) v facts = facts ≡ record { premises = []; actions = []; conclusions = fr t ∷ [] }
IsInstance theory (take_out t) v facts = facts ≡ record { premises = out_of t ∷ []; actions = []; conclusions = knows t ∷ [] }
IsInstance theory (put_in t) v facts = facts ≡ record { premises = knows t ∷ []; actions = sends t ∷ []; conclusions = in_of t ∷ [] }
IsInstance theory (know_public t) v facts = facts ≡ record { premises = []; actions = []; conclusions = knows t ∷ [] }
IsInstance theory (make_own t) v facts = facts ≡ record { premises = fr t ∷ []; actions = []; conclusions = knows t ∷ [] }
IsInstance theory (apply_symbol f ts) v facts = facts ≡ record { premises = known_all ts; actions = []; conclusions = knows (app f ts) ∷ [] }

-- Each of the facts is found in the state, modulo the equations, at a place of its own if it is linear; what is left is the rest.
-- The order of a state doesn't matter, since a fact is taken from any place.
abbrev pub Takes : List Equation → List (Fact ⊥) → List (Fact ⊥) → List (Fact ⊥) → Type 0
Takes es [] state rest = state ≡ rest
Takes es (fact ∷ facts) state rest =
    (front : List (Fact ⊥)) × (found : Fact ⊥) × (back : List (Fact ⊥)) × (state ≡ front ++ found ∷ back) × SameFact es fact found
    × Takes es facts (front ++ (if found.persistent then found ∷ back else back)) rest

-- a fresh name isn't made twice
abbrev pub IsNew : Step → State → Type 0
IsNew (make_fresh t) state = Member t state.made → ⊥
IsNew step state = Unit {0}

-- each term has the sort that the rule's variable, or the step, wants
abbrev pub HasSorts : Signature → Step → Values → Type 0
HasSorts signature (use_rule name given) v = IsValuation signature v
HasSorts signature (make_fresh t) v = IsValue signature Fresh t
HasSorts signature (take_out t) v = IsValue signature Msg t
HasSorts signature (put_in t) v = IsValue signature Msg t
HasSorts signature (know_public t) v = IsValue signature Pub t
HasSorts signature (make_own t) v = IsValue signature Fresh t
HasSorts signature (apply_symbol f ts) v = AreOver signature.symbols ts

abbrev pub made_by : Step → List Ground → List Ground
made_by (make_fresh t) made = t ∷ made
made_by step made = made

-- the step leads from one state to the other, and has these facts
pub record Leads (theory : Theory) (step : Step) (facts : Facts ⊥) (before after : State) : Type 0 where
  pub values : Values
  pub rest : List (Fact ⊥)
  pub named : IsNamed theory step
  pub is_instance : IsInstance theory step values facts
  pub takes : Takes (signature_of theory).equations facts.premises before.facts rest
  pub is_new : IsNew step before
  pub sorts : HasSorts (signature_of theory) step values
  pub adds : after ≡ record { facts = facts.conclusions ++ rest; made = made_by step before.made }

-- why a step can't be done, the least cause first
pub data Cause : Type 0 where
  no_such_rule : Cause
  no_instance : Cause
  premise_absent : Cause
  fresh_name_twice : Cause
  wrong_sort : Cause

abbrev pub IsNoStep : Cause → Theory → Step → State → Type 0
IsNoStep no_such_rule theory step before = IsNamed theory step → ⊥
IsNoStep no_instance theory step before = (v : Values) (facts : Facts ⊥) → IsInstance theory step v facts → ⊥
IsNoStep premise_absent theory step before =
    (v : Values) (facts : Facts ⊥) (rest : List (Fact ⊥)) → IsInstance theory step v facts → Takes (signature_of theory).equations facts.premises before.facts rest → ⊥
IsNoStep fresh_name_twice theory step before = IsNew step before → ⊥
IsNoStep wrong_sort theory step before = (v : Values) (facts : Facts ⊥) → IsInstance theory step v facts → HasSorts (signature_of theory) step v → ⊥

-- the actions of those steps that have an action, the newest first
abbrev pub Trace : Type 0
Trace = List (List (Action ⊥))

abbrev pub with_entry : List (Action ⊥) → Trace → Trace
with_entry [] trace = trace
with_entry (action ∷ actions) trace = (action ∷ actions) ∷ trace

-- the steps, the newest first, lead from the empty state to this one, with this trace
abbrev pub Runs : Theory → List Step → State → Trace → Type 0
Runs theory [] state trace = (state ≡ record { facts = []; made = [] }) × (trace ≡ [])
Runs theory (step ∷ past) state trace =
    (before : State) × (earlier : Trace) × (facts : Facts ⊥) × Runs theory past before earlier × Leads theory step facts before state × (trace ≡ with_entry facts.actions earlier)

abbrev pub IsExecution : Theory → List Step → Trace → Type 0
IsExecution theory steps trace = (state : State) × Runs theory steps state trace

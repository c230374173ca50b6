-- Learning logs: what rules did and what the adversary learnt, each message once and in normal form. Source: CSF 2012, "Normal
-- message deduction" (dependency graphs with construction, destruction and chains); Schmidt's thesis, chapter 3; Tamarin manual,
-- "KU".
use Rattle.std.specs.Prelude.{◌≡◌, ◌⊎◌, ◌<◌, ℕ, zero, Bool, true, false, not, ◌&&◌, if◌then◌else◌, List, [], ◌∷◌, ◌++◌, codes}
use Rattle.std.specs.Str.{bytes_eq}
use Rattle.sp_spec.specs.Lists.{Member, Every, Distinct, AtPlace, AtPosition}
use Rattle.sp_spec.specs.Term.{Pub, Fresh, app, none, more, Ground, Grounds, count, Values, valued, valued_all}
use Rattle.sp_spec.specs.Signature.{Signature, HasPublic, HasSort, IsValuation, RespectsSorts}
use Rattle.sp_spec.specs.Equal.{IsNormal}
use Rattle.sp_spec.specs.Rule.{Fact, Action, Facts, Rule, facts_at, IsNormalFormOf, in_of, out_of, sends, learns}
use Rattle.sp_spec.specs.Theory.{Theory, signature_of}
use Rattle.sp_spec.specs.Execution.{Trace, with_entry}
use Rattle.sp_spec.specs.Destruction.{Destruction, destructions}

-- where a premise comes from: the built-in fresh rule, or a conclusion of the entry at a position (of a Send it is conclusion 0)
pub data Source : Type 0 where
  fresh_rule : Source
  conclusion : ℕ → ℕ → Source

-- how a message is learnt: as a public name, as a fresh name of the adversary's own, by applying a symbol, or out of the
-- argument of an Out conclusion, by a chain of destructions from that argument to the message
pub data How : Type 0 where
  public_name : How
  own_name : How
  constructed : How
  by_chain : ℕ → ℕ → List Ground → How

pub data Entry : Type 0 where
  step : List ℕ → Facts ⊥ → List Source → Entry
  send : Ground → Entry
  learn : Ground → How → Entry

-- the newest first
abbrev pub Log : Type 0
Log = List Entry

abbrev pub entry_actions : Entry → List (Action ⊥)
entry_actions (step r facts sources) = facts.actions
entry_actions (send m) = sends m ∷ []
entry_actions (learn m how) = learns m ∷ []

-- one entry for each of the log's
abbrev pub log_trace : Log → Trace
log_trace [] = []
log_trace (e ∷ past) = entry_actions e ∷ log_trace past

-- without what is learnt and without empty entries
abbrev pub visible_trace : Log → Trace
visible_trace [] = []
visible_trace (step r facts sources ∷ past) = with_entry facts.actions (visible_trace past)
visible_trace (send m ∷ past) = with_entry (sends m ∷ []) (visible_trace past)
visible_trace (learn m how ∷ past) = visible_trace past

-- a premise Fr(n), and its n
abbrev pub is_fr : {V : Type 0} → Fact V → Bool
is_fr f = bytes_eq f.symbol (codes "Fr") && not f.persistent

-- a premise In(t)
abbrev pub is_in : {V : Type 0} → Fact V → Bool
is_in f = bytes_eq f.symbol (codes "In") && not f.persistent

abbrev pub first_arg : Grounds → List Ground
first_arg none = []
first_arg (more t ts) = t ∷ []

-- the names whose Fr the premises use
abbrev pub fresh_of : List (Fact ⊥) → List Ground
fresh_of [] = []
fresh_of (f ∷ fs) = (if is_fr f then first_arg f.args else []) ++ fresh_of fs

-- the names whose Fr an entry uses, and all that a log's entries use
abbrev pub fresh_uses : Entry → List Ground
fresh_uses (step r facts sources) = fresh_of facts.premises
fresh_uses (learn m own_name) = m ∷ []
fresh_uses (learn m how) = []
fresh_uses (send m) = []

abbrev pub all_fresh_uses : Log → List Ground
all_fresh_uses [] = []
all_fresh_uses (e ∷ past) = fresh_uses e ++ all_fresh_uses past

-- the linear sources that an entry names, and all that a log's entries name
abbrev pub linear_sources : List (Fact ⊥) → List Source → List Source
linear_sources (f ∷ fs) (conclusion p k ∷ sources) = (if f.persistent then [] else conclusion p k ∷ []) ++ linear_sources fs sources
linear_sources (f ∷ fs) (fresh_rule ∷ sources) = linear_sources fs sources
linear_sources fs sources = []

abbrev pub sources_of : Entry → List Source
sources_of (step r facts sources) = linear_sources facts.premises sources
sources_of (send m) = []
sources_of (learn m how) = []

abbrev pub all_sources : Log → List Source
all_sources [] = []
all_sources (e ∷ past) = sources_of e ++ all_sources past

-- the entry gives this fact as its conclusion of that place
abbrev pub Concludes : Entry → ℕ → Fact ⊥ → Type 0
Concludes (step r facts sources) k f = AtPlace facts.conclusions k f
Concludes (send m) k f = (k ≡ zero) × (f ≡ in_of m)
Concludes (learn m how) k f = ⊥

-- each premise has its source in what came earlier
abbrev pub HasSources : List (Fact ⊥) → List Source → Log → Type 0
HasSources [] [] past = Unit {0}
HasSources (f ∷ fs) (fresh_rule ∷ sources) past = (is_fr f ≡ true) × HasSources fs sources past
HasSources (f ∷ fs) (conclusion p k ∷ sources) past =
    (is_fr f ≡ false) × ((e : Entry) × AtPosition past p e × Concludes e k f) × HasSources fs sources past
HasSources fs sources past = ⊥

-- the message was learnt at that position
abbrev pub LearntAt : Log → ℕ → Ground → Type 0
LearntAt log p m = (how : How) × AtPosition log p (learn m how)

abbrev pub IsLearnt : Log → Ground → Type 0
IsLearnt log m = (p : ℕ) × LearntAt log p m

abbrev pub AreLearnt : Log → Grounds → Type 0
AreLearnt log none = Unit {0}
AreLearnt log (more t ts) = IsLearnt log t × AreLearnt log ts

-- from the first message follows the second, by an instance of a destruction whose side messages are learnt
abbrev pub IsDestructed : Signature → Log → Ground → Ground → Type 0
IsDestructed signature past t u =
    (d : Destruction) × Member d (destructions signature) × (v : Values) × RespectsSorts v
    × (t ≡ valued v d.pattern) × AreLearnt past (valued_all v d.sides) × (u ≡ valued v d.result)

-- the messages lead from the first to this one
abbrev pub IsChain : Signature → Log → Ground → List Ground → Ground → Type 0
IsChain signature past t [] m = t ≡ m
IsChain signature past t (u ∷ chain) m = IsDestructed signature past t u × IsChain signature past u chain m

abbrev pub StartsChain : Signature → Log → List Ground → Ground → Ground → Type 0
StartsChain signature past [] first m = ⊥
StartsChain signature past (t ∷ chain) first m = (t ≡ first) × IsChain signature past t chain m

-- a pair, a symbol without arguments that is public, or a public name
abbrev pub IsMadeAlone : Signature → Ground → Type 0
IsMadeAlone signature m =
    ((t : Ground) × (u : Ground) × (m ≡ app (codes "pair") (more t (more u none))))
    ⊎ ((c : List ℕ) × HasPublic signature.symbols c zero × (m ≡ app c none))
    ⊎ HasSort Pub m

-- the message may be learnt in that way after these entries
abbrev pub MayLearn : Signature → Log → Ground → How → Type 0
MayLearn signature past m public_name = HasSort Pub m
MayLearn signature past m own_name = HasSort Fresh m
MayLearn signature past m constructed =
    (f : List ℕ) × (ts : Grounds) × (m ≡ app f ts) × HasPublic signature.symbols f (count ts) × AreLearnt past ts × IsNormal signature.equations m
MayLearn signature past m (by_chain p k chain) =
    (r : List ℕ) × (facts : Facts ⊥) × (sources : List Source) × AtPosition past p (step r facts sources)
    × (first : Ground) × AtPlace facts.conclusions k (out_of first) × StartsChain signature past chain first m

-- the facts are an instance of a rule of that name, in normal form
abbrev pub IsRuleInstance : Theory → List ℕ → Facts ⊥ → Type 0
IsRuleInstance theory r facts =
    (rule : Rule) × Member rule theory.rules × (rule.name ≡ r) × (v : Values) × IsValuation (signature_of theory) v
    × IsNormalFormOf (signature_of theory).equations (facts_at v rule.facts) facts

-- what a log owes of each of its entries
pub data Clause : Type 0 where
  -- a step is an instance of a rule of its name, in normal form
  rule_instance : Clause
  -- its premises have sources, and no linear source is named twice
  premise_sources : Clause
  -- no fresh name is used twice
  fresh_names_once : Clause
  -- what is sent is learnt
  sent_is_learnt : Clause
  -- what is learnt wasn't yet
  learnt_once : Clause
  -- and may be learnt in that way
  way_of_learning : Clause
  -- what is made alone is learnt by no chain
  made_alone : Clause
  -- no message of a chain was learnt before the chain's step
  chain_is_new : Clause

-- The entry keeps the clause behind those before it. A clause that is about other kinds of entries holds of it.
abbrev pub Keeps : Theory → Clause → Entry → Log → Type 0
Keeps theory rule_instance (step r facts sources) past = IsRuleInstance theory r facts
Keeps theory premise_sources (step r facts sources) past = HasSources facts.premises sources past × Distinct (all_sources (step r facts sources ∷ past))
Keeps theory fresh_names_once e past = Distinct (all_fresh_uses (e ∷ past))
Keeps theory sent_is_learnt (send m) past = IsLearnt past m
Keeps theory learnt_once (learn m how) past = IsLearnt past m → ⊥
Keeps theory way_of_learning (learn m how) past = MayLearn (signature_of theory) past m how
Keeps theory made_alone (learn m (by_chain p k chain)) past = IsMadeAlone (signature_of theory) m → ⊥
Keeps theory chain_is_new (learn m (by_chain p k chain)) past = Every (λ t. (q : ℕ) → q < p → LearntAt past q t → ⊥) chain
Keeps theory clause e past = Unit {0}

-- each entry keeps each clause behind those before it
abbrev pub IsLog : Theory → Log → Type 0
IsLog theory [] = Unit {0}
IsLog theory (e ∷ past) = IsLog theory past × ((clause : Clause) → Keeps theory clause e past)

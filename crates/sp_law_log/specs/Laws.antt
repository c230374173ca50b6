-- What holds of destructions and of learning logs.
use Rattle.std.specs.Prelude.{◌≤◌, ◌<◌, true, ◌≡◌, ◌↔◌, ◌⊎◌, ℕ, length, List, [], ◌∷◌, ◌++◌, Some}
use Rattle.sp_spec.specs.Lists.{Member, Every, AtPlace, AtPosition}
use Rattle.sp_spec.specs.Term.{Variable, name, Ground, Grounds}
use Rattle.sp_spec.specs.Signature.{Symbol, Equation, Signature, IsOver, AreOver}
use Rattle.sp_spec.specs.Equal.{IsNormal, AreNormal}
use Rattle.sp_spec.specs.Rule.{Fact, Action, Facts, OfArguments, fr}
use Rattle.sp_spec.specs.Theory.{Theory, signature_of}
use Rattle.sp_spec.specs.Log.{Source, How, own_name, by_chain, Entry, step, send, learn, Log, is_fr, fresh_uses, IsDestructed, IsLog}
use Rattle.sp_spec.specs.Destruction.{Destruction, Fork, way_to, along_way, destructions}
use Rattle.sp_law_equal.specs.Parts.{IsPart, IsPartOfOne}
use Rattle.sp_law_equal.specs.RightTheory.{HasNormalInstances, TakesFreshNames, BindsActions, BindsConclusions, StandsIn, StandsAmong}
use Rattle.sp_law_log.specs.Ways.{IsPublicFork, ArePublic, IsWay, destruction_below, IsOfPlace}

-- Where the right side of an equation stands in its left side, a way leads there. Each place on it that is neither its beginning
-- nor its end, and has public symbols alone above it, has its destruction in the list, with the arguments beside the way as side messages.
pub record DestructionsComplete : Type 0 where
  pub way : (e : Equation) → IsPart e.right e.left → (forks : List Fork) × (way_to e.right e.left ≡ Some forks) × IsWay e.left forks e.right
  pub listed :
      (signature : Signature) (e : Equation) → Member e signature.equations
      → (above : List Fork) (f g : Fork) (under : List Fork) → way_to e.right e.left ≡ Some (above ++ f ∷ g ∷ under)
      → ArePublic signature.symbols above → IsPublicFork signature.symbols f
      → Member (destruction_below e above f) (destructions signature)

-- Each destruction of the list is that of such a place.
pub record DestructionsSound : Type 0 where
  pub each : (signature : Signature) (d : Destruction) → Member d (destructions signature) → IsOfPlace signature d

-- a place on the way to an equation's right side that is neither the way's beginning nor its end, below public symbols alone
pub record IsPlace (symbols : List Symbol) (e : Equation) (above : List Fork) (f : Fork) : Type 0 where
  pub next : Fork
  pub under : List Fork
  pub way : way_to e.right e.left ≡ Some (above ++ f ∷ next ∷ under)
  pub publics : ArePublic symbols above
  pub public : IsPublicFork symbols f

-- At the place with so many forks above it stands its own destruction in the list, and nothing else; what stands at a place of the list is the
-- destruction of a place with as many forks above it; and that place is one. So each place is listed once.
pub record PlacesAreListedOnce : Type 0 where
  pub listed : (symbols : List Symbol) (e : Equation) (above : List Fork) (f : Fork) → IsPlace symbols e above f
      → (d : Destruction) → AtPlace (along_way symbols e.right (way_to e.right e.left)) (length above) d ↔ (d ≡ destruction_below e above f)
  pub place : (symbols : List Symbol) (e : Equation) (k : ℕ) (d : Destruction) → AtPlace (along_way symbols e.right (way_to e.right e.left)) k d
      → (above : List Fork) × (f : Fork) × IsPlace symbols e above f × (length above ≡ k) × (d ≡ destruction_below e above f)
  pub one : (symbols : List Symbol) (e : Equation) (above others : List Fork) (f g : Fork) → IsPlace symbols e above f → IsPlace symbols e others g → length above ≡ length others
      → (above ≡ others) × (f ≡ g)

-- What came before an entry of a log is a log: the newest entries come first.
pub record PrefixesAreLogs : Type 0 where
  pub each : (theory : Theory) (later past : Log) → IsLog theory (later ++ past) → IsLog theory past

-- an earlier entry uses the Fr of the name, or has it as the adversary's own
abbrev pub IsUsedBefore : Log → ℕ → ℕ → Type 0
IsUsedBefore log p n = (q : ℕ) × (e : Entry) × AtPosition log q e × Member (name n) (fresh_uses e) × (q < p)

-- the entry at the position does, or an earlier one
abbrev pub IsUsedUntil : Log → ℕ → ℕ → Type 0
IsUsedUntil log p n = (q : ℕ) × (e : Entry) × AtPosition log q e × Member (name n) (fresh_uses e) × (q ≤ p)

-- Which entry uses a fresh name that stands in the entry at a position: in a premise Fr, in another premise, in an action, in a conclusion, in what is sent,
-- in what is the adversary's own, in what is learnt otherwise, in a message of a chain.
pub record HasOrigins (log : Log) : Type 0 where
  pub fresh_premise : (p : ℕ) (r : List ℕ) (facts : Facts ⊥) (sources : List Source) → AtPosition log p (step r facts sources) → (f : Fact ⊥) → Member f facts.premises → is_fr f ≡ true
      → (n : ℕ) → IsPartOfOne (name n) f.args → (f ≡ fr (name n)) × Member (name n) (fresh_uses (step r facts sources))
  pub premise : (p : ℕ) (r : List ℕ) (facts : Facts ⊥) (sources : List Source) → AtPosition log p (step r facts sources) → (f : Fact ⊥) → Member f facts.premises
      → (n : ℕ) → (f ≡ fr (name n) → ⊥) → IsPartOfOne (name n) f.args → IsUsedBefore log p n
  pub action : (p : ℕ) (r : List ℕ) (facts : Facts ⊥) (sources : List Source) → AtPosition log p (step r facts sources) → (a : Action ⊥) → Member a facts.actions
      → (n : ℕ) → IsPartOfOne (name n) a.args → IsUsedUntil log p n
  pub conclusion : (p : ℕ) (r : List ℕ) (facts : Facts ⊥) (sources : List Source) → AtPosition log p (step r facts sources) → (f : Fact ⊥) → Member f facts.conclusions
      → (n : ℕ) → IsPartOfOne (name n) f.args → IsUsedUntil log p n
  pub sent : (p : ℕ) (m : Ground) → AtPosition log p (send m) → (n : ℕ) → IsPart (name n) m → IsUsedBefore log p n
  pub own : (p : ℕ) (m : Ground) → AtPosition log p (learn m own_name) → (n : ℕ) → IsPart (name n) m → m ≡ name n
  pub learnt : (p : ℕ) (m : Ground) (how : How) → AtPosition log p (learn m how) → (how ≡ own_name → ⊥) → (n : ℕ) → IsPart (name n) m → IsUsedBefore log p n
  pub chain : (p c k : ℕ) (m : Ground) (messages : List Ground) → AtPosition log p (learn m (by_chain c k messages)) → (t : Ground) → Member t messages
      → (n : ℕ) → IsPart (name n) t → IsUsedBefore log p n

-- Where rules have normal instances, take fresh names by Fr alone, and bind their actions and conclusions, each fresh name in a log was used by an Fr, or
-- as a name of the adversary's own, before it stands anywhere else.
pub record NamesHaveOrigins : Type 0 where
  pub each : (theory : Theory) → HasNormalInstances theory → Every BindsActions theory.rules → Every BindsConclusions theory.rules → Every TakesFreshNames theory.rules
      → (log : Log) → IsLog theory log → HasOrigins log

-- the messages that an entry sends or learns, with those of its chain
abbrev pub messages_of : Entry → List Ground
messages_of (step r facts sources) = []
messages_of (send m) = m ∷ []
messages_of (learn m (by_chain c k messages)) = m ∷ messages
messages_of (learn m how) = m ∷ []

-- the variable stands in the pattern, in a side message, or in the result
abbrev pub StandsInDestruction : Variable → Destruction → Type 0
StandsInDestruction x d = StandsIn x d.pattern ⊎ StandsAmong x d.sides ⊎ StandsIn x d.result

-- The first holds of each message in the log, the second of the arguments of each fact and action. And where the first holds of a message, as it
-- does of each on a chain, it holds of the values of each variable of a destruction by which another follows from it.
pub record HoldsInLog (theory : Theory) (log : Log) (P : Ground → Type 0) (Qs : Grounds → Type 0) : Type 0 where
  pub facts : (p : ℕ) (r : List ℕ) (facts : Facts ⊥) (sources : List Source) → AtPosition log p (step r facts sources) → OfArguments Qs facts
  pub messages : (p : ℕ) (e : Entry) → AtPosition log p e → Every P (messages_of e)
  pub values : (t u : Ground) → P t → (link : IsDestructed (signature_of theory) log t u) → (x : Variable) → StandsInDestruction x link.0 → P (link.2 x)

-- Where rules have normal instances, all that stands in a log is over the signature.
pub record LogsAreOver : Type 0 where
  pub each : (theory : Theory) → HasNormalInstances theory → (log : Log) → IsLog theory log
      → HoldsInLog theory log (IsOver (signature_of theory).symbols) (AreOver (signature_of theory).symbols)

-- All that stands in a log is in normal form.
pub record LogsAreNormal : Type 0 where
  pub each : (theory : Theory) → (log : Log) → IsLog theory log
      → HoldsInLog theory log (IsNormal (signature_of theory).equations) (AreNormal (signature_of theory).equations)

-- The edges of a log lead from what is taken to what takes it, each once, and in order.
use Rattle.std.specs.Prelude.{◌≡◌, ◌⊎◌, ◌↔◌, ◌<◌, ℕ, true, false, List, [], ◌∷◌}
use Rattle.sp_spec.specs.Lists.{Member, Every, Distinct, AtPlace}
use Rattle.sp_spec.specs.Term.{app, list_of, Ground, Grounds}
use Rattle.sp_spec.specs.Log.{conclusion, How, public_name, own_name, constructed, by_chain, Entry, step, send, learn}
use Rattle.sp_graph.specs.Edges.{Edge, edges}

-- one of the step's sources is a conclusion of the entry at the position
abbrev pub TakesFact : Entry → ℕ → Entry → Type 0
TakesFact (step r facts sources) p x = (k : ℕ) × Member (conclusion p k) sources
TakesFact (send m) p x = ⊥
TakesFact (learn m how) p x = ⊥

abbrev pub Learns : Entry → Ground → Type 0
Learns x m = (how : How) × (x ≡ learn m how)

-- what is constructed comes from its arguments, and what a chain gives from its step
abbrev pub IsLearntFrom : Ground → How → ℕ → Entry → Type 0
IsLearntFrom m public_name p x = ⊥
IsLearntFrom m own_name p x = ⊥
IsLearntFrom m constructed p x = (f : List ℕ) × (ts : Grounds) × (m ≡ app f ts) × (t : Ground) × Member t (list_of ts) × Learns x t
IsLearntFrom m (by_chain q k chain) p x = q ≡ p

-- what is sent was learnt there, or what is learnt comes from there
abbrev pub TakesMessage : Entry → ℕ → Entry → Type 0
TakesMessage (step r facts sources) p x = ⊥
TakesMessage (send m) p x = Learns x m
TakesMessage (learn m how) p x = IsLearntFrom m how p x

-- The entry at the second position takes something from the one at the first, which is earlier. What it takes is said of the entry, and of the
-- position and the entry from which it takes.
pub record Leads (Takes : Entry → ℕ → Entry → Type 0) (entries : List Entry) (p q : ℕ) : Type 0 where
  pub taken : Entry
  pub taking : Entry
  pub from : AtPlace entries p taken
  pub to : AtPlace entries q taking
  pub earlier : p < q
  pub takes : Takes taking p taken

-- by where they lead to, and then by where they come from
abbrev pub Precedes : Edge → Edge → Type 0
Precedes a b = (a.to < b.to) ⊎ ((a.to ≡ b.to) × (a.from < b.from))

abbrev pub AreInOrder : List Edge → Type 0
AreInOrder [] = Unit {0}
AreInOrder (a ∷ es) = Every (Precedes a) es × AreInOrder es

-- of entries with the oldest first
pub record GraphIsRight : Type 0 where
  pub facts : (entries : List Entry) (p q : ℕ) → Member (record { from = p; is_fact = true; to = q }) (edges entries) ↔ Leads TakesFact entries p q
  pub messages : (entries : List Entry) (p q : ℕ) → Member (record { from = p; is_fact = false; to = q }) (edges entries) ↔ Leads TakesMessage entries p q
  pub once : (entries : List Entry) → Distinct (edges entries)
  pub in_order : (entries : List Entry) → AreInOrder (edges entries)

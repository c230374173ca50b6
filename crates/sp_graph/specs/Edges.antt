-- The edges of a learning log: from where each entry takes what it takes. Entries stand here with the oldest first, and are numbered from 0. Source: CSF 2012,
-- "Normal message deduction" (the edges of a dependency graph lead from what an instance of a rule gives to where it is taken); Tamarin manual, "Graphs".
use Rattle.std.specs.Prelude.{ℕ, suc, Bool, true, false, ◌||◌, ◌==◌, List, [], ◌∷◌, ◌++◌, map, length, if◌then◌else◌}
use Rattle.sp_spec.specs.Term.{var, constant, name, app, none, more, Ground, Grounds}
use Rattle.sp_spec.specs.Same.{same_term}
use Rattle.sp_spec.specs.Log.{Source, fresh_rule, conclusion, How, public_name, own_name, constructed, by_chain, Entry, step, send, learn}

-- a premise has its source in the entry at this position
abbrev pub is_source : ℕ → List Source → Bool
is_source p [] = false
is_source p (fresh_rule ∷ sources) = is_source p sources
is_source p (conclusion q k ∷ sources) = (p == q) || is_source p sources

-- the message is one of these, or one of the arguments of this one
abbrev pub is_argument : Ground → Grounds → Bool
is_argument m none = false
is_argument m (more t ts) = same_term m t || is_argument m ts

abbrev pub is_part : Ground → Ground → Bool
is_part m (var x) = false
is_part m (constant c) = false
is_part m (name n) = false
is_part m (app f ts) = is_argument m ts

-- the entry learns a message that passes the test
abbrev pub learns_one : (Ground → Bool) → Entry → Bool
learns_one test (step r facts sources) = false
learns_one test (send m) = false
learns_one test (learn m how) = test m

-- what is learnt in that way takes something from the entry at this position
abbrev pub is_learnt_from : Ground → How → ℕ → Entry → Bool
is_learnt_from m public_name p e = false
is_learnt_from m own_name p e = false
is_learnt_from m constructed p e = learns_one (λ t. is_part t m) e
is_learnt_from m (by_chain q k chain) p e = p == q

-- the first entry takes something from the second, which stands at this position
abbrev pub takes_from : Entry → ℕ → Entry → Bool
takes_from (step r facts sources) p e = is_source p sources
takes_from (send m) p e = learns_one (λ t. same_term t m) e
takes_from (learn m how) p e = is_learnt_from m how p e

-- of entries from this position on, the positions of those from which it takes something, in order
abbrev pub taken_from : Entry → ℕ → List Entry → List ℕ
taken_from e p [] = []
taken_from e p (x ∷ xs) = if takes_from e p x then p ∷ taken_from e (suc p) xs else taken_from e (suc p) xs

-- from the first position to the second; a fact is taken, or what was learnt or put out
pub record Edge : Type 0 where
  pub from : ℕ
  pub is_fact : Bool
  pub to : ℕ

abbrev pub takes_facts : Entry → Bool
takes_facts (step r facts sources) = true
takes_facts (send m) = false
takes_facts (learn m how) = false

abbrev pub edge_to : Entry → ℕ → ℕ → Edge
edge_to e q p = record { from = p; is_fact = takes_facts e; to = q }

-- those to the entry behind these
abbrev pub edges_to : Entry → List Entry → List Edge
edges_to e earlier = map (edge_to e (length earlier)) (taken_from e 0 earlier)

-- those to these entries, behind earlier ones: by where they lead to, and then by where they come from, each once
abbrev pub edges_behind : List Entry → List Entry → List Edge
edges_behind earlier [] = []
edges_behind earlier (e ∷ later) = edges_to e earlier ++ edges_behind (earlier ++ e ∷ []) later

abbrev pub edges : List Entry → List Edge
edges entries = edges_behind [] entries

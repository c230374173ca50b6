-- The execution that a learning log stands for. A step of the log is done behind its fresh names; what the adversary learns and sends is learnt and
-- sent by steps of its own. Along a chain it gets the next message from the one before by applying the symbols above it, in the left side of an equation,
-- to messages that were learnt earlier. Source: CSF 2012, "Message deduction"; Meier's thesis, chapter 3 (chains).
use Rattle.std.specs.Prelude.{ℕ, suc, ◌+◌, Bool, false, ◌&&◌, ◌||◌, ◌==◌, if◌then◌else◌, List, [], ◌∷◌, ◌++◌, map, take, drop, slice_get, Option, Some, None, unwrap_or}
use Rattle.sp_spec.specs.Term.{app, none, more, count, Ground, Grounds}
use Rattle.sp_spec.specs.Signature.{Symbol, Equation, Signature}
use Rattle.sp_spec.specs.Theory.{Theory, signature_of}
use Rattle.sp_spec.specs.Execution.{Step, make_fresh, take_out, put_in, know_public, make_own, apply_symbol}
use Rattle.sp_spec.specs.Destruction.{Destruction, Fork, way_to, is_public, destructions}
use Rattle.sp_spec.specs.Log.{How, public_name, own_name, constructed, by_chain, Entry, step, send, learn, Log}
use Rattle.sp_spec_forms.specs.Forms.{RuleForms, forms_of}
use Rattle.sp_law_log_steps.specs.Found.{entry_steps}
use Rattle.sp_destruct.specs.Links.{link}

-- ---- the ways of destructions

-- a fork by what is needed on the way up: the symbol, and how many arguments stand before the one that is entered, and behind it
pub record Level : Type 0 where
  pub symbol : List ℕ
  pub front : ℕ
  pub back : ℕ

abbrev pub level_of : Fork → Level
level_of f = record { symbol = f.symbol; front = count f.front; back = count f.back }

-- from the root down to each place of which there is a destruction, behind the levels above
abbrev pub ways_along : List Symbol → List Level → List Level → List (List Level)
ways_along symbols above [] = []
ways_along symbols above (l ∷ []) = []
ways_along symbols above (l ∷ m ∷ levels) =
    if is_public symbols l.symbol (l.front + suc l.back) then (above ++ l ∷ []) ∷ ways_along symbols (above ++ l ∷ []) (m ∷ levels) else []

abbrev pub ways_on : List Symbol → Option (List Fork) → List (List Level)
ways_on symbols None = []
ways_on symbols (Some forks) = ways_along symbols [] (map level_of forks)

abbrev pub ways_by : List Symbol → List Equation → List (List Level)
ways_by symbols [] = []
ways_by symbols (e ∷ es) = ways_on symbols (way_to e.right e.left) ++ ways_by symbols es

-- for each destruction of the signature the way to its pattern, in their order
abbrev pub destruction_ways : Signature → List (List Level)
destruction_ways signature = ways_by signature.symbols signature.equations

-- what links go by: the destructions, and the way of each
pub record Linking : Type 0 where
  pub destructions : List Destruction
  pub ways : List (List Level)

abbrev pub linking_of : Signature → Linking
linking_of signature = record { destructions = destructions signature; ways = destruction_ways signature }

-- ---- up a way

-- the messages in front of the terms
abbrev pub in_front : List Ground → Grounds → Grounds
in_front [] ts = ts
in_front (m ∷ ms) ts = more m (in_front ms ts)

-- the arguments at a level: the first side messages, and among them the message at the place that is entered
abbrev pub args_between : Level → List Ground → Ground → Grounds
args_between l ms t = in_front (take l.front ms) (more t (in_front (take l.back (drop l.front ms)) none))

-- the side messages of the levels below
abbrev pub sides_below : Level → List Ground → List Ground
sides_below l ms = drop (l.front + l.back) ms

-- the message at the root of a way, with these side messages, from the root down, and this message at its end
abbrev pub raised : List Level → List Ground → Ground → Ground
raised [] ms t = t
raised (l ∷ levels) ms t = app l.symbol (args_between l ms (raised levels (sides_below l ms) t))

-- from the way's end up each symbol is applied; the newest step comes first
abbrev pub raising : List Level → List Ground → Ground → List Step
raising [] ms t = []
raising (l ∷ levels) ms t =
    apply_symbol l.symbol (args_between l ms (raised levels (sides_below l ms) t)) ∷ raising levels (sides_below l ms) t

-- ---- along a chain

abbrev pub if_there : Option Ground → List Ground
if_there None = []
if_there (Some m) = m ∷ []

-- the messages at these places
abbrev pub messages_at : List Ground → List ℕ → List Ground
messages_at learnt [] = []
messages_at learnt (k ∷ ks) = if_there (slice_get learnt k) ++ messages_at learnt ks

-- up the way of the destruction of that number, beside the messages at those places
abbrev pub steps_by : Linking → List Ground → Ground → Option (ℕ × List ℕ) → List Step
steps_by by learnt t None = []
steps_by by learnt t (Some found) = raising (unwrap_or (slice_get by.ways found.0) []) (messages_at learnt found.1) t

-- from a message to the next one
abbrev pub link_steps : Linking → List Ground → Ground → Ground → List Step
link_steps by learnt t u = steps_by by learnt t (link by.destructions learnt t u)

-- from a message through these
abbrev pub chain_steps : Linking → List Ground → Ground → List Ground → List Step
chain_steps by learnt t [] = []
chain_steps by learnt t (u ∷ chain) = chain_steps by learnt u chain ++ link_steps by learnt t u

-- ---- a log

-- the messages that a log learns, the oldest first
abbrev pub messages_learnt : Log → List Ground
messages_learnt [] = []
messages_learnt (step r facts sources ∷ past) = messages_learnt past
messages_learnt (send m ∷ past) = messages_learnt past
messages_learnt (learn m how ∷ past) = messages_learnt past ++ m ∷ []

-- whether the entry learns by a chain from that conclusion of the entry at that position
abbrev pub takes_from : Entry → ℕ → ℕ → Bool
takes_from (learn m (by_chain q j chain)) p k = (q == p) && (j == k)
takes_from e p k = false

-- whether one of the log's does
abbrev pub is_taken : Log → ℕ → ℕ → Bool
is_taken [] p k = false
is_taken (e ∷ past) p k = takes_from e p k || is_taken past p k

abbrev pub making : Ground → List Step
making (app f ts) = apply_symbol f ts ∷ []
making m = []

-- Along a chain from what an entry puts out. That is taken only once: from then on it is known.
abbrev pub from_out : Linking → Log → ℕ → ℕ → List Ground → List Step
from_out by past p k [] = []
from_out by past p k (t ∷ chain) = chain_steps by (messages_learnt past) t chain ++ (if is_taken past p k then [] else take_out t ∷ [])

-- the message is learnt in that way
abbrev pub learning : Linking → Log → Ground → How → List Step
learning by past m public_name = know_public m ∷ []
learning by past m own_name = make_own m ∷ make_fresh m ∷ []
learning by past m constructed = making m
learning by past m (by_chain p k chain) = from_out by past p k chain

-- the steps of an entry behind these entries, the newest first
abbrev pub executed_entry : List Equation → List RuleForms → Linking → Log → Entry → List Step
executed_entry es rules by past (step r facts sources) = entry_steps es rules (step r facts sources)
executed_entry es rules by past (send m) = put_in m ∷ []
executed_entry es rules by past (learn m how) = learning by past m how

-- those of the newest entry, then those of the entries before it
abbrev pub executed_by : List Equation → List RuleForms → Linking → Log → List Step
executed_by es rules by [] = []
executed_by es rules by (e ∷ past) = executed_entry es rules by past e ++ executed_by es rules by past

abbrev pub executed_of : Theory → Log → List Step
executed_of theory log =
    let signature = signature_of theory in
    executed_by signature.equations (map (forms_of signature.equations) theory.rules) (linking_of signature) log

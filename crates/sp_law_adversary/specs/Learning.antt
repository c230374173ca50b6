-- What the adversary learns from what it gets, each message once: the entries that a log goes on by. Source: CSF 2012, "Normal message deduction".
use Rattle.std.specs.Prelude.{ℕ, zero, Bool, false, ◌||◌, if◌then◌else◌, List, [], ◌∷◌, ◌++◌, codes, Option, Some, None, unwrap_or, option_map}
use Rattle.std.specs.Option.{option_or}
use Rattle.std.specs.Str.{bytes_eq}
use Rattle.sp_spec.specs.Term.{constant, app, none, more, Ground, Grounds, Values, valued}
use Rattle.sp_spec.specs.Same.{same_term}
use Rattle.sp_spec.specs.Signature.{Symbol, Equation, Signature}
use Rattle.sp_spec.specs.Destruction.{Fork, way_to, is_public}
use Rattle.sp_spec.specs.Rule.{Facts}
use Rattle.sp_spec.specs.Execution.{Step, make_fresh, use_rule, take_out, put_in, know_public, make_own, apply_symbol}
use Rattle.sp_spec.specs.Log.{Source, conclusion, How, public_name, own_name, constructed, by_chain, step, send, learn, Log}
use Rattle.sp_law_equal.specs.Normal.{normal, normal_all}
use Rattle.sp_law_equal.specs.Matching.{Bound, value_in, matched}

-- how the message was learnt, if it was
abbrev pub way_learnt : Log → Ground → Option How
way_learnt [] m = None
way_learnt (step r facts sources ∷ past) m = way_learnt past m
way_learnt (send t ∷ past) m = way_learnt past m
way_learnt (learn t how ∷ past) m = if same_term t m then Some how else way_learnt past m

abbrev pub is_learnt : Log → Ground → Bool
is_learnt [] m = false
is_learnt (step r facts sources ∷ past) m = is_learnt past m
is_learnt (send t ∷ past) m = is_learnt past m
is_learnt (learn t how ∷ past) m = same_term t m || is_learnt past m

-- where the message is learnt there is nothing to add
abbrev pub unless_learnt : Log → Ground → Log → Log
unless_learnt log m later = if is_learnt log m then log else later

abbrev pub learnt_by : Log → Ground → How → Log
learnt_by log m how = unless_learnt log m (learn m how ∷ log)

-- a chain from the Out conclusion of that place of the entry at that position
pub record Chain : Type 0 where
  pub position : ℕ
  pub place : ℕ
  pub messages : List Ground

abbrev pub with_message : Chain → Ground → Chain
with_message chain m = record { position = chain.position; place = chain.place; messages = chain.messages ++ m ∷ [] }

abbrev pub by : Chain → How
by chain = by_chain chain.position chain.place chain.messages

-- how the end of a chain is learnt that is no pair: what can be made alone is made, and anything else comes by the chain
abbrev pub way_at_end : List Symbol → Chain → Ground → How
way_at_end symbols chain (constant c) = public_name
way_at_end symbols chain (app c none) = if is_public symbols c zero then constructed else by chain
way_at_end symbols chain m = by chain

-- the end of the chain is learnt, a pair by its parts
abbrev pub absorbed : List Symbol → Chain → Ground → Log → Log
absorbed symbols chain (app f (more t (more u none))) log =
    unless_learnt log (app f (more t (more u none)))
    (if bytes_eq f (codes "pair")
    then learnt_by (absorbed symbols (with_message chain u) u (absorbed symbols (with_message chain t) t log)) (app f (more t (more u none))) constructed
    else learn (app f (more t (more u none))) (by chain) ∷ log)
absorbed symbols chain m log = learnt_by log m (way_at_end symbols chain m)

-- from how a message was learnt to that in which a way ends: what was made was made of what the way enters next, and what came by a chain is taken further
abbrev pub chain_from : Option How → Ground → Option Chain → Option Chain
chain_from (Some constructed) end below = below
chain_from (Some (by_chain p k chain)) end below = Some (with_message (record { position = p; place = k; messages = chain }) end)
chain_from how end below = None

-- down the way, whose first fork has learnt arguments, to its end
abbrev pub chain_down : Log → Values → Ground → List Fork → Option Chain
chain_down log v end [] = None
chain_down log v end (f ∷ forks) = chain_from (way_learnt log (valued v f.entered)) end (chain_down log v end forks)

-- what ends a chain is absorbed, and anything else is made
abbrev pub by_chain_or_made : List Symbol → Ground → Log → Option Chain → Log
by_chain_or_made symbols m log None = learn m constructed ∷ log
by_chain_or_made symbols m log (Some chain) = absorbed symbols chain m log

-- an instance of the equation's left side gives that of its right side
abbrev pub taken_out : List Symbol → Equation → Values → Log → Log
taken_out symbols e v log =
    unless_learnt log (valued v e.right)
    (by_chain_or_made symbols (valued v e.right) log (chain_down log v (valued v e.right) (unwrap_or (way_to e.right e.left) [])))

-- the first equation whose left side matches, and how
abbrev pub equation_for : List Equation → Ground → Option (Equation × List Bound)
equation_for [] t = None
equation_for (e ∷ es) t = option_or (option_map (λ bs. (e, bs)) (matched e.left t [])) (equation_for es t)

abbrev pub reduced_or_made : List Symbol → Ground → Log → Option (Equation × List Bound) → Log
reduced_or_made symbols m log None = learnt_by log m constructed
reduced_or_made symbols m log (Some used) = taken_out symbols used.0 (value_in used.1) log

-- a public symbol is applied to learnt messages: the normal form is learnt
abbrev pub applied : Signature → List ℕ → Grounds → Log → Log
applied signature f us log = reduced_or_made signature.symbols (app f us) log (equation_for signature.equations (app f us))

-- what was put out is the beginning of a chain
abbrev pub taken_from : List Symbol → Ground → List Source → Log → Log
taken_from symbols m (conclusion p k ∷ sources) log = absorbed symbols (record { position = p; place = k; messages = m ∷ [] }) m log
taken_from symbols m sources log = log

-- the log behind the step, of which these are the facts in normal form, with the sources of its premises
abbrev pub logged : Signature → Step → Facts ⊥ → List Source → Log → Log
logged signature (make_fresh t) facts sources log = log
logged signature (use_rule r given) facts sources log = step r facts sources ∷ log
logged signature (take_out t) facts sources log = taken_from signature.symbols (normal signature.equations t) sources log
logged signature (put_in t) facts sources log = send (normal signature.equations t) ∷ log
logged signature (know_public t) facts sources log = learnt_by log (normal signature.equations t) public_name
logged signature (make_own t) facts sources log = learnt_by log (normal signature.equations t) own_name
logged signature (apply_symbol f ts) facts sources log = applied signature f (normal_all signature.equations ts) log

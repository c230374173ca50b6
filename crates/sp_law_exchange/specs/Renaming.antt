-- Other names in the place of names, each by one of its kind: public names by public names, fresh names by fresh names, throughout what stands in
-- a log. Source: CSF 2012, "Cryptographic messages" (public names and fresh names, of which there are as many as one likes).
use Rattle.std.specs.Prelude.{◌≡◌, ℕ, List, map}
use Rattle.sp_spec.specs.Term.{Term, var, constant, name, app, Terms, none, more, public_name, fresh_name, Names, Values}
use Rattle.sp_spec.specs.Rule.{Fact, Action, Facts}
use Rattle.sp_spec.specs.Execution.{Trace}
use Rattle.sp_spec.specs.Log.{How, own_name, constructed, by_chain, Entry, step, send, learn, Log}
use Rattle.sp_spec.specs.Log as log
use Rattle.sp_spec.specs.Guarded.{Assignment}
use Rattle.sp_spec_system.specs.Solutions.{Valuation}

-- what becomes of each name
pub record Renaming : Type 0 where
  pub public : List ℕ → List ℕ
  pub fresh : ℕ → ℕ

abbrev mutual
  pub renamed : {V : Type 0} → Renaming → Term V → Term V
  renamed r (var x) = var x
  renamed r (constant c) = constant (r.public c)
  renamed r (name n) = name (r.fresh n)
  renamed r (app f ts) = app f (renamed_all r ts)

  pub renamed_all : {V : Type 0} → Renaming → Terms V → Terms V
  renamed_all r none = none
  renamed_all r (more t ts) = more (renamed r t) (renamed_all r ts)

abbrev pub fact_renamed : {V : Type 0} → Renaming → Fact V → Fact V
fact_renamed r f = record { symbol = f.symbol; persistent = f.persistent; args = renamed_all r f.args }

abbrev pub action_renamed : {V : Type 0} → Renaming → Action V → Action V
action_renamed r a = record { symbol = a.symbol; args = renamed_all r a.args }

abbrev pub facts_renamed : {V : Type 0} → Renaming → Facts V → Facts V
facts_renamed r f = record { premises = map (fact_renamed r) f.premises; actions = map (action_renamed r) f.actions; conclusions = map (fact_renamed r) f.conclusions }

abbrev pub how_renamed : Renaming → How → How
how_renamed r log.public_name = log.public_name
how_renamed r own_name = own_name
how_renamed r constructed = constructed
how_renamed r (by_chain p k chain) = by_chain p k (map (renamed r) chain)

abbrev pub entry_renamed : Renaming → Entry → Entry
entry_renamed r (step n facts sources) = step n (facts_renamed r facts) sources
entry_renamed r (send m) = send (renamed r m)
entry_renamed r (learn m how) = learn (renamed r m) (how_renamed r how)

-- each entry at its position, with the sources that it had
abbrev pub log_renamed : Renaming → Log → Log
log_renamed r past = map (entry_renamed r) past

abbrev pub actions_renamed : Renaming → List (Action ⊥) → List (Action ⊥)
actions_renamed r actions = map (action_renamed r) actions

abbrev pub trace_renamed : Renaming → Trace → Trace
trace_renamed r trace = map (actions_renamed r) trace

abbrev pub values_renamed : Renaming → Values → Values
values_renamed r v x = renamed r (v x)

abbrev pub assignment_renamed : Renaming → Assignment → Assignment
assignment_renamed r m = record { terms = values_renamed r m.terms; times = m.times; bound_terms = λ k. renamed r (m.bound_terms k); bound_times = m.bound_times }

abbrev pub valuation_renamed : Renaming → Valuation → Valuation
valuation_renamed r v = record { terms = values_renamed r v.terms; times = v.times }

-- the names that stay
abbrev pub kept_by : Renaming → Names
kept_by r (public_name c) = r.public c ≡ c
kept_by r (fresh_name n) = r.fresh n ≡ n

-- the second gives back what the first has changed
pub record TakesBack (r s : Renaming) : Type 0 where
  pub public : (c : List ℕ) → s.public (r.public c) ≡ c
  pub fresh : (n : ℕ) → s.fresh (r.fresh n) ≡ n

-- a renaming that can be taken back, and takes back what takes it back: one to one
pub record IsOneToOne (r : Renaming) : Type 0 where
  pub inverse : Renaming
  pub back : TakesBack r inverse
  pub forth : TakesBack inverse r

-- What the checking of a learning log answers: that it is a log, or its first entry that is none behind those before it, and the least clause of the
-- definition that this entry breaks.
use Rattle.std.specs.Prelude.{◌≡◌, ◌<◌, ℕ, List, ◌∷◌, ◌++◌, length}
use Rattle.sp_spec.specs.Lists.{newest_first}
use Rattle.sp_spec.specs.Theory.{Theory}
use Rattle.sp_spec.specs.Log as spec
use Rattle.sp_spec.specs.Log.{Entry, Keeps, IsLog}
use Rattle.sp_learn.specs.declared.check.Clause.{Clause}
use Rattle.sp_learn.specs.declared.check.Clause.TheVariants.{Instance, Sources, Freshness, SentLearnt, LearntOnce, Way, MadeAlone, ChainIsNew}
use Rattle.sp_learn.specs.declared.check.Checked.{Checked}
use Rattle.sp_learn.specs.declared.check.Checked.TheVariants.{Fine, Fails}

-- the clauses of the definition
abbrev pub clause_of : Clause → spec.Clause
clause_of Instance = spec.rule_instance
clause_of Sources = spec.premise_sources
clause_of Freshness = spec.fresh_names_once
clause_of SentLearnt = spec.sent_is_learnt
clause_of LearntOnce = spec.learnt_once
clause_of Way = spec.way_of_learning
clause_of MadeAlone = spec.made_alone
clause_of ChainIsNew = spec.chain_is_new

-- the clauses in their order
abbrev pub rank : Clause → ℕ
rank Instance = 0
rank Sources = 1
rank Freshness = 2
rank SentLearnt = 3
rank LearntOnce = 4
rank Way = 5
rank MadeAlone = 6
rank ChainIsNew = 7

-- The entries before the n-th, counted from 0, are a log; the n-th breaks this clause, and keeps each lesser one.
pub record IsFirstBroken (theory : Theory) (entries : List Entry) (n : ℕ) (clause : Clause) : Type 0 where
  pub front : List Entry
  pub entry : Entry
  pub back : List Entry
  pub splits : entries ≡ front ++ entry ∷ back
  pub counted : n ≡ length front
  pub is_log : IsLog theory (newest_first front)
  pub breaks : Keeps theory (clause_of clause) entry (newest_first front) → ⊥
  pub least : (lesser : Clause) → rank lesser < rank clause → Keeps theory (clause_of lesser) entry (newest_first front)

-- The answer is right of these entries, the oldest first: they are a log, or have this first broken clause.
abbrev pub IsChecked : Theory → List Entry → Checked → Type 0
IsChecked theory entries Fine = IsLog theory (newest_first entries)
IsChecked theory entries (Fails n clause) = IsFirstBroken theory entries n clause

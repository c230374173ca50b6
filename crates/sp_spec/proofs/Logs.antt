-- What a log says of each of its entries, and how a step is added to it.
use Rattle.std.proofs.Common.{◌≡◌, ℕ, List, [], ◌∷◌, length, subst, inl, inr}
use Rattle.sp_spec.specs.Lists.{Distinct, AtPosition}
use Rattle.sp_spec.specs.Rule.{Facts}
use Rattle.sp_spec.specs.Theory.{Theory}
use Rattle.sp_spec.specs.Log.{Source, Entry, step, send, learn, Log, all_fresh_uses, all_sources, HasSources, IsRuleInstance, Clause, rule_instance, premise_sources, fresh_names_once, sent_is_learnt, learnt_once, way_of_learning, made_alone, chain_is_new, Keeps, IsLog}

-- no linear source is named twice in a log, and no fresh name is used twice
pub log_sources : (theory : Theory) (log : Log) → IsLog theory log → Distinct (all_sources log)
log_sources theory [] is = tt
log_sources theory (step r facts sources ∷ past) is = (is.1 premise_sources).1
log_sources theory (send m ∷ past) is = log_sources theory past is.0
log_sources theory (learn m how ∷ past) is = log_sources theory past is.0

pub log_fresh : (theory : Theory) (log : Log) → IsLog theory log → Distinct (all_fresh_uses log)
log_fresh theory [] is = tt
log_fresh theory (e ∷ past) is = is.1 fresh_names_once

-- what came before an entry of a log
pub record IsBehind (theory : Theory) (log : Log) (p : ℕ) (e : Entry) : Type 0 where
  pub past : Log
  pub is_log : IsLog theory past
  pub keeps : (clause : Clause) → Keeps theory clause e past
  pub position : p ≡ length past
  pub still_there : (q : ℕ) (d : Entry) → AtPosition past q d → AtPosition log q d

pub entry_behind : (theory : Theory) (log : Log) → IsLog theory log → (p : ℕ) (e : Entry) → AtPosition log p e → IsBehind theory log p e
entry_behind theory [] is p e there = absurd there
entry_behind theory (d ∷ log) is p e (inl there) =
    record {
      past = log;
      is_log = is.0;
      keeps = subst (λ (x : Entry). (clause : Clause) → Keeps theory clause x log) there.1 is.1;
      position = there.0;
      still_there = λ q x a. inr a;
    }
entry_behind theory (d ∷ log) is p e (inr there) =
    let b = entry_behind theory log is.0 p e there in
    record { past = b.past; is_log = b.is_log; keeps = b.keeps; position = b.position; still_there = λ q x a. inr (b.still_there q x a) }

-- a step keeps each clause where it keeps the three that are about steps
pub step_keeps : (theory : Theory) (past : Log) (r : List ℕ) (facts : Facts ⊥) (sources : List Source) → IsRuleInstance theory r facts
    → HasSources facts.premises sources past → Distinct (all_sources (step r facts sources ∷ past)) → Distinct (all_fresh_uses (step r facts sources ∷ past))
    → (clause : Clause) → Keeps theory clause (step r facts sources) past
step_keeps theory past r facts sources i s once names rule_instance = i
step_keeps theory past r facts sources i s once names premise_sources = (s, once)
step_keeps theory past r facts sources i s once names fresh_names_once = names
step_keeps theory past r facts sources i s once names sent_is_learnt = tt
step_keeps theory past r facts sources i s once names learnt_once = tt
step_keeps theory past r facts sources i s once names way_of_learning = tt
step_keeps theory past r facts sources i s once names made_alone = tt
step_keeps theory past r facts sources i s once names chain_is_new = tt

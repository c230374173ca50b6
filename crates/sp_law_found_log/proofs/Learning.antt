-- A lemma that names learning is read over learning logs, and any other over executions.
use Rattle.std.proofs.Common.{◌≡◌, Bool, true, false, refl, sym, subst}
use Rattle.sp_spec.specs.Theory.{Lemma}
use Rattle.sp_spec.specs.Verdict.{names_learning, InReading}

-- what is so over logs in any case, and over executions where the lemma names no learning
pub either_reading : (lemma : Lemma) (by_logs by_executions : Type 0) → by_logs → (names_learning lemma.formula ≡ false → by_executions)
    → InReading (names_learning lemma.formula) by_logs by_executions
either_reading lemma by_logs by_executions over_logs over_executions = at (names_learning lemma.formula) over_executions
  where
    at : (b : Bool) → (b ≡ false → by_executions) → InReading b by_logs by_executions
    at true h = over_logs
    at false h = h refl

-- what is read over executions
module _ (lemma : Lemma) (none : names_learning lemma.formula ≡ false) (by_logs by_executions : Type 0) where
  pub into_reading : by_executions → InReading (names_learning lemma.formula) by_logs by_executions
  into_reading h = subst (λ (b : Bool). InReading b by_logs by_executions) (sym none) h

  pub out_of_reading : InReading (names_learning lemma.formula) by_logs by_executions → by_executions
  out_of_reading h = subst (λ (b : Bool). InReading b by_logs by_executions) none h

-- what is read over logs
module _ (lemma : Lemma) (marked : names_learning lemma.formula ≡ true) (by_logs by_executions : Type 0) where
  pub out_of_logs : InReading (names_learning lemma.formula) by_logs by_executions → by_logs
  out_of_logs h = subst (λ (b : Bool). InReading b by_logs by_executions) marked h

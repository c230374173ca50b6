-- A lemma whose two cases of induction no log meets is true over each log that meets the restrictions.
use Rattle.std.proofs.Common.{zero, List, sym, subst}
use Rattle.sp_spec.specs.Lists.{Every}
use Rattle.sp_spec.specs.Signature.{Signature}
use Rattle.sp_spec.specs.Theory.{Theory}
use Rattle.sp_spec.specs.Execution.{Trace}
use Rattle.sp_spec.specs.Log.{Log, log_trace, IsLog}
use Rattle.sp_spec.specs.Guarded.{Guarded, Assignment, GuardedHolds}
use Rattle.sp_law_truth.specs.Shown.{IsTimed}
use Rattle.sp_law_truth.proofs.StableGuarded.{stable_guarded}
use Rattle.sp_law_system.specs.Proofs.{IsPast}
use Rattle.sp_law_induction.specs.Covering.{IsCase}
use Rattle.sp_law_induction.proofs.Covering.{covers}
use Rattle.sp_law_inductive.proofs.Logs.{prefix_of_log}

pub induction : (theory : Theory) (signature : Signature) (m : Assignment) (restrictions : List Guarded) (lemma : Guarded) → Every (IsTimed zero) restrictions → IsTimed zero lemma
    → (log : Log) → IsLog theory log → Every (GuardedHolds signature (log_trace log) m) restrictions
    → ((past : Log) → IsPast past log → IsLog theory past → IsCase signature m restrictions lemma (log_trace log) (log_trace past) → ⊥)
    → GuardedHolds signature (log_trace log) m lemma
induction theory signature m restrictions lemma t tl log l h refuted =
    let trace = log_trace log in
    stable_guarded signature trace m lemma (λ u. covers signature m restrictions lemma t tl trace h u (λ x.
    let e = prefix_of_log theory log l x.0 x.1.prefix in
    refuted e.0 e.1 e.2 (subst (λ (t : Trace). IsCase signature m restrictions lemma trace t) (sym e.3) x.1)))

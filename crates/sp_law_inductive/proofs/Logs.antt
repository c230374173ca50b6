-- A prefix of a log's trace is the trace of what the log was by then, and that is a log.
use Rattle.std.proofs.Common.{◌≡◌, [], ◌∷◌, ◌++◌, refl, ap, sym}
use Rattle.sp_spec.specs.Theory.{Theory}
use Rattle.sp_spec.specs.Execution.{Trace}
use Rattle.sp_spec.specs.Log.{Entry, Log, log_trace, IsLog}
use Rattle.sp_law_system.specs.Proofs.{IsPast}
use Rattle.sp_law_induction.specs.Prefix.{IsPrefix}
use Rattle.sp_law_induction.proofs.Shortest.{without_newest}

past_further : (past : Log) (entry : Entry) (log : Log) → IsPast past log → IsPast past (entry ∷ log)
past_further past entry log p = (entry ∷ p.0, ap (λ (x : Log). entry ∷ x) p.1)

behind : (theory : Theory) (newer older : Trace) (log : Log) → IsLog theory log → newer ++ older ≡ log_trace log
    → (earlier : Log) × IsPast earlier log × IsLog theory earlier × (log_trace earlier ≡ older)
behind theory [] older log l e = (log, ([], refl), l, sym e)
behind theory (x ∷ newer) older [] l e = absurd cc
behind theory (x ∷ newer) older (entry ∷ past) l e =
    let r = behind theory newer older past l.0 (ap without_newest e) in
    (r.0, past_further r.0 entry past r.1, r.2, r.3)

pub prefix_of_log : (theory : Theory) (log : Log) → IsLog theory log → (older : Trace) → IsPrefix older (log_trace log)
    → (earlier : Log) × IsPast earlier log × IsLog theory earlier × (log_trace earlier ≡ older)
prefix_of_log theory log l older p = behind theory p.0 older log l p.1

-- Of a text whose lines are replayed one thing is answered.
use Rattle.std.specs.Prelude.{◌≡◌, ℕ, List}
use Rattle.sp_spec.specs.Execution.{Cause}
use Rattle.sp_place.specs.Refused.{IsRefusedAt}
use Rattle.sp_pose.specs.Problem.{IsReported}
use Rattle.sp_replay.specs.Replay.{IsUnread, IsStopped, IsReplay}

-- one of the five, and in one way
pub record RepliesAreOne : Type 0 where
  pub one : (text written other : List ℕ) → IsReplay text written → IsReplay text other → written ≡ other
  pub one_stopped : (text : List ℕ) (n m : ℕ) (cause other : Cause) → IsStopped text n cause → IsStopped text m other → (n ≡ m) × (cause ≡ other)
  pub one_unread : (text : List ℕ) (n m : ℕ) → IsUnread text n → IsUnread text m → n ≡ m
  pub done_or_stopped : (text written : List ℕ) (n : ℕ) (cause : Cause) → IsReplay text written → IsStopped text n cause → ⊥
  pub done_or_unread : (text written : List ℕ) (n : ℕ) → IsReplay text written → IsUnread text n → ⊥
  pub stopped_or_unread : (text : List ℕ) (n m : ℕ) (cause : Cause) → IsStopped text n cause → IsUnread text m → ⊥
  pub refused_or_done : (text written : List ℕ) (place : ℕ) → IsRefusedAt text place → IsReplay text written → ⊥
  pub refused_or_stopped : (text : List ℕ) (place n : ℕ) (cause : Cause) → IsRefusedAt text place → IsStopped text n cause → ⊥
  pub refused_or_unread : (text : List ℕ) (place n : ℕ) → IsRefusedAt text place → IsUnread text n → ⊥
  pub reported_or_done : (text lines written : List ℕ) → IsReported text lines → IsReplay text written → ⊥
  pub reported_or_stopped : (text lines : List ℕ) (n : ℕ) (cause : Cause) → IsReported text lines → IsStopped text n cause → ⊥
  pub reported_or_unread : (text lines : List ℕ) (n : ℕ) → IsReported text lines → IsUnread text n → ⊥

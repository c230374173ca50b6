-- What is done with a text whose lines are replayed.
use Rattle.std.specs.Prelude.{ℕ, List}
use Rattle.sp_exec.specs.View.{cause_of}
use Rattle.sp_replay.specs.Replay.{IsUnread, IsStopped, IsReplay}
use Rattle.sp_replay.specs.declared.replay.Attempt.{Attempt}
use Rattle.sp_replay.specs.declared.replay.Attempt.TheVariants.{Unread, Stopped, Done}

-- A line of it is unread, or a step of it can't be done; or all is done.
abbrev pub IsDone : List ℕ → Attempt → Type 0
IsDone text (Unread number) = IsUnread text number
IsDone text (Stopped number cause) = IsStopped text number (cause_of cause)
IsDone text (Done written) = IsReplay text written.items

use Rattle.std.proofs.Common.{◌≡◌, ◌≤◌, length}
use Rattle.sp_read_steps.specs.Reading.{to_feed}
use Rattle.sp_read_steps.proofs.texts.to_line_end.Given as goal

abbrev pub invariant-loop-byte : goal.invariant-loop-byte
invariant-loop-byte l = record { value : to_feed l.rest ≡ to_feed l.text; shorter : length l.rest ≤ length l.text }

abbrev pub decreases-loop-byte : goal.decreases-loop-byte
decreases-loop-byte l = length l.rest

use Rattle.std.proofs.Common.{◌≡◌, ◌+◌, ◌≤◌, length, false}
use Rattle.sp_spec_text.specs.Lex.{to_closing}
use Rattle.sp_lex.proofs.cut.to_closing.Given as goal

abbrev pub invariant-loop-byte : goal.invariant-loop-byte
invariant-loop-byte l = record { reads : to_closing l.quoted l.depth l.rest ≡ to_closing false 0 l.text; depth : l.depth + length l.rest ≤ length l.text }

abbrev pub decreases-loop-byte : goal.decreases-loop-byte
decreases-loop-byte l = length l.rest

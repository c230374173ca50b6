use Rattle.std.proofs.Common.{◌≡◌, ◌+◌, ◌≤◌, length}
use Rattle.sp_spec_text.specs.Lex.{after_comment}
use Rattle.sp_lex.proofs.cut.after_comment.Given as goal

abbrev pub invariant-loop-first : goal.invariant-loop-first
invariant-loop-first l = record { reads : after_comment l.depth l.rest ≡ after_comment 0 l.text; depth : l.depth + length l.rest ≤ length l.text }

abbrev pub decreases-loop-first : goal.decreases-loop-first
decreases-loop-first l = length l.rest

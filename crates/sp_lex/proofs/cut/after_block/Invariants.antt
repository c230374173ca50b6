use Rattle.std.proofs.Common.{◌≡◌, ◌≤◌, length}
use Rattle.sp_spec_text.specs.Lex.{after_block}
use Rattle.sp_lex.proofs.cut.after_block.Given as goal

abbrev pub invariant-loop-first : goal.invariant-loop-first
invariant-loop-first l = record { reads : after_block l.rest ≡ after_block l.text; shorter : length l.rest ≤ length l.text }

abbrev pub decreases-loop-first : goal.decreases-loop-first
decreases-loop-first l = length l.rest

use Rattle.std.proofs.Common.{◌≡◌, ◌≤◌, length}
use Rattle.sp_spec_text.specs.Bytes as class
use Rattle.sp_spec_text.specs.Lex.{skip}
use Rattle.sp_read_steps.proofs.texts.skip_word.Given as goal

abbrev pub invariant-loop-byte : goal.invariant-loop-byte
invariant-loop-byte l = record { value : skip class.Word l.rest ≡ skip class.Word l.text; shorter : length l.rest ≤ length l.text }

abbrev pub decreases-loop-byte : goal.decreases-loop-byte
decreases-loop-byte l = length l.rest

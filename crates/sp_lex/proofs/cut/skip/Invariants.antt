use Rattle.std.proofs.Common.{◌≡◌, ◌≤◌, length}
use Rattle.sp_spec_text.specs.Lex.{skip}
use Rattle.sp_lex.specs.Views.{class_of}
use Rattle.sp_lex.proofs.cut.skip.Given as goal

abbrev pub invariant-loop-byte : goal.invariant-loop-byte
invariant-loop-byte l = record { value : skip (class_of l.class) l.rest ≡ skip (class_of l.class) l.text; shorter : length l.rest ≤ length l.text }

abbrev pub decreases-loop-byte : goal.decreases-loop-byte
decreases-loop-byte l = length l.rest

use Rattle.std.proofs.Common.{◌≡◌, length, reverse}
use Rattle.sp_spec_text.specs.Blanks.{unblanked}
use Rattle.sp_read_steps.proofs.texts.unblanked_behind.Given as goal

abbrev pub invariant-loop-front : goal.invariant-loop-front
invariant-loop-front l = reverse (unblanked (reverse l.rest)) ≡ reverse (unblanked (reverse l.text))

abbrev pub decreases-loop-front : goal.decreases-loop-front
decreases-loop-front l = length l.rest

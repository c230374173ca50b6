use Rattle.std.proofs.Common.{◌≡◌, length}
use Rattle.sp_spec_text.specs.Blanks.{unblanked}
use Rattle.sp_skel.proofs.texts.unblanked.Given as goal

abbrev pub invariant-loop-byte : goal.invariant-loop-byte
invariant-loop-byte l = unblanked l.rest ≡ unblanked l.text

abbrev pub decreases-loop-byte : goal.decreases-loop-byte
decreases-loop-byte l = length l.rest

use Rattle.std.proofs.Common.{◌≡◌, ◌^◌, ◌<◌, length}
use Rattle.sp_spec_text.specs.Numerals.{are_digits, value}
use Rattle.sp_skel.proofs.texts.number_of.Given as goal

abbrev pub invariant-loop-byte : goal.invariant-loop-byte
invariant-loop-byte l = record { digits : are_digits l.rest ≡ are_digits l.word; same : value l.number l.rest ≡ value 0 l.word; below : l.number < 2 ^ 128 }

abbrev pub decreases-loop-byte : goal.decreases-loop-byte
decreases-loop-byte l = length l.rest

use Rattle.std.proofs.Common.{◌≡◌, drop}
use Rattle.sp_spec_text.specs.Numerals as numerals
use Rattle.sp_await.proofs.lexemes.are_digits.Given as goal

abbrev pub invariant-loop-byte : goal.invariant-loop-byte
invariant-loop-byte l = numerals.are_digits l.bytes ≡ numerals.are_digits (drop l.byte-index l.bytes)

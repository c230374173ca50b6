use Rattle.std.proofs.Common.{◌≡◌, ◌++◌, drop}
use Rattle.sp_generated.specs.Theory.{with_number}
use Rattle.sp_generated.proofs.push_bytes.Given as goal

abbrev pub invariant-loop-byte : goal.invariant-loop-byte
invariant-loop-byte l = l.text.items ++ with_number l.number (drop l.byte-index l.part) ≡ l.fn.text.items ++ with_number l.number l.part

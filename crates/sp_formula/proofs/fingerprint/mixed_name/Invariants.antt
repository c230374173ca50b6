use Rattle.std.proofs.Common.{◌≡◌, drop}
use Rattle.sp_term.specs.View.{name_of}
use Rattle.sp_formula.specs.Fingerprint.{mixed_name}
use Rattle.sp_formula.proofs.fingerprint.mixed_name.Given as goal

abbrev pub invariant-loop-byte : goal.invariant-loop-byte
invariant-loop-byte l = mixed_name l.made (drop l.byte-index l.byte-items) ≡ mixed_name l.fn.print (name_of l.fn.name)

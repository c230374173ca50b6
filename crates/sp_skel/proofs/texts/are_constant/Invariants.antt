use Rattle.std.proofs.Common.{◌≡◌, drop}
use Rattle.std.specs.List.{list_all}
use Rattle.sp_spec_text.specs.Lex.{is_constant_byte}
use Rattle.sp_skel.proofs.texts.are_constant.Given as goal

abbrev pub invariant-loop-byte : goal.invariant-loop-byte
invariant-loop-byte l = list_all is_constant_byte (drop l.byte-index l.bytes) ≡ list_all is_constant_byte l.bytes

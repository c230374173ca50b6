use Rattle.std.proofs.Common.{sym, ◌∙◌, arith}
use Rattle.sp_spec_text.specs.Bytes as class
use Rattle.sp_lex.proofs.Pieces.{skip_more, skip_stop, skip_end}
use Rattle.sp_read_steps.proofs.texts.skip_constant.Goals as goal

pub returns-then-not-is_constant_byte-clause-value : goal.returns-then-not-is_constant_byte-clause-value
returns-then-not-is_constant_byte-clause-value c = skip_stop class.Constant c.loop-byte.invariant.value c.in-Some.ensures.value (sym c.is_constant_byte.ensures ∙ c.if-not-is_constant_byte.true)

pub loop-byte-preserved : goal.loop-byte-preserved
loop-byte-preserved c = record {
  value = skip_more class.Constant c.loop-byte.invariant.value c.in-Some.ensures.value (sym c.is_constant_byte.ensures ∙ c.if-not-is_constant_byte.false);
  shorter = omega (arith, c.in-Some.ensures.shorter);
}

pub returns-clause-value : goal.returns-clause-value
returns-clause-value c = skip_end class.Constant c.loop-byte.invariant.value c.in_default.ensures.value

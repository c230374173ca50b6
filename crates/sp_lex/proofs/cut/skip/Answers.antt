use Rattle.std.proofs.Common.{sym, ◌∙◌, arith}
use Rattle.sp_lex.specs.Views.{class_of}
use Rattle.sp_lex.proofs.Pieces.{skip_more, skip_stop, skip_end, one_less}
use Rattle.sp_lex.proofs.cut.skip.Goals as goal

pub returns-then-not-is_in-clause-value : goal.returns-then-not-is_in-clause-value
returns-then-not-is_in-clause-value c = skip_stop (class_of c.args.class) c.loop-byte.invariant.value c.in-Some.ensures (sym c.is_in.ensures ∙ c.if-not-is_in.true)

pub loop-byte-preserved : goal.loop-byte-preserved
loop-byte-preserved c = record {
  value = skip_more (class_of c.args.class) c.loop-byte.invariant.value c.in-Some.ensures (sym c.is_in.ensures ∙ c.if-not-is_in.false);
  shorter = omega (arith, one_less c.in-Some.ensures);
}

pub returns-clause-value : goal.returns-clause-value
returns-clause-value c = skip_end (class_of c.args.class) c.loop-byte.invariant.value c.in_default.ensures

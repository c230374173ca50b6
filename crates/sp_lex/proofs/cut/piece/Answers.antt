use Rattle.std.proofs.Common.{sym}
use Rattle.sp_lex.proofs.Pieces.{word_utf8}
use Rattle.sp_lex.proofs.cut.piece.Goals as goal

pub before-requires-clause-utf8 : goal.before-requires-clause-utf8
before-requires-clause-utf8 c =
    word_utf8 c.args.text.now c.in-Some.behind.now c.skip-rest.result.now c.in-Some.byte c.in-Some.ensures (sym c.if-is_ascii_alphanumeric.ensures.value) c.skip-rest.ensures.value

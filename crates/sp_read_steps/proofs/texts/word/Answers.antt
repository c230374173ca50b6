use Rattle.std.proofs.Common.{sym, ◌∙◌}
use Rattle.sp_lex.proofs.Pieces.{word_utf8}
use Rattle.sp_read_steps.proofs.texts.word.Goals as goal

pub before-found-requires-clause-utf8 : goal.before-found-requires-clause-utf8
before-found-requires-clause-utf8 c =
    word_utf8 c.args.text.now c.in_ok-byte.behind.now c.skip_word-rest.result.now c.in_ok-byte.byte c.in_ok-byte.ensures.value (sym c.is_ascii_alphanumeric.ensures.value ∙ c.if-not-is_ascii_alphanumeric.false) c.skip_word-rest.ensures.value

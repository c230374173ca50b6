use Rattle.std.proofs.Common.{refl, sym, arith}
use Rattle.std.proofs.lemmas.List.{nil_from_length}
use Rattle.sp_lex.proofs.Runs.{cut_more, cut_end, cut_open, cut_bad}
use Rattle.sp_lex.proofs.cut.scan.Goals as goal

pub returns-then-here-eq0 : goal.returns-then-here-eq0
returns-then-here-eq0 c = cut_end c.loop-here.invariant c.in-Ok.ensures.read (nil_from_length _ (omega arith))

pub loop-here-preserved : goal.loop-here-preserved
loop-here-preserved c =
    rw c.in_ok-push-in-Token.ensures
    (cut_more c.loop-here.invariant c.in-Ok.ensures.read c.in-Ok.ensures.shorter c.in-Token.ensures.value c.in-Token.ensures.shorter refl refl (sym c.if-is_end.ensures))

pub returns-in-Err : goal.returns-in-Err
returns-in-Err c = rw (c.broken-made.ensures.tokens, c.broken-made.ensures.fault) (cut_open c.loop-here.invariant c.in-Err.ensures.read c.in-Err.ensures.shorter)

pub returns-in-NoToken : goal.returns-in-NoToken
returns-in-NoToken c = rw (c.broken-made-in-NoToken.ensures.tokens, c.broken-made-in-NoToken.ensures.fault) (cut_bad c.loop-here.invariant c.in-Ok.ensures.read c.in-Ok.ensures.shorter (omega arith) c.in-NoToken.ensures.value)

use Rattle.std.proofs.Common.{sym, arith}
use Rattle.sp_system.proofs.OnlyOne.{not_alone}
use Rattle.sp_system.proofs.picked.only_term.Goals as goal

pub returns-else-len-eq1 : goal.returns-else-len-eq1
returns-else-len-eq1 c =
    let ts = c.args.terms.now in
    sym (not_alone ts.items (λ e. c.if-len-eq1.false (omega (arith, e, c.len.ensures, ts.ok.0))))

use Rattle.std.proofs.Common.{arith}
use Rattle.sp_rows_formula.proofs.Parts.{several}
use Rattle.sp_rows_formula.proofs.disjunction.disjunction_of.Goals as goal

pub returns : goal.returns
returns c =
    several c.args.parts
    (λ e. omega (arith, e, c.if-len-eq0.false, c.len.ensures))
    (λ e. omega (arith, e, c.if-len-eq1.false, c.len-2.ensures))

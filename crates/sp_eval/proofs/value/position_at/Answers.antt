use Rattle.std.proofs.Common.{ℕ, Option, unwrap_or, sym, ap, ◌∙◌, arith}
use Rattle.sp_formula.proofs.Filled.{value_there, value_beyond}
use Rattle.sp_eval.specs.View.{time_of}
use Rattle.sp_eval.proofs.value.position_at.Goals as goal

pub returns-then-index-len : goal.returns-then-index-len
returns-then-index-len c =
    sym (ap (λ (o : Option ℕ). unwrap_or o 0) (value_beyond time_of c.args.times.now.items c.args.place (omega (arith, c.if-index-len.true, c.len.ensures, c.args.times.now.ok.0))))

pub returns-in-Some : goal.returns-in-Some
returns-in-Some c =
    let there = value_there time_of c.args.times.now.items c.args.place c.index.result.now (omega (arith, c.if-index-len.false, c.len.ensures, c.args.times.now.ok.0)) c.index.ensures in
    sym (ap (λ (o : Option ℕ). unwrap_or o 0) (there ∙ c.in-Some.is))

pub returns-in-None : goal.returns-in-None
returns-in-None c =
    let there = value_there time_of c.args.times.now.items c.args.place c.index.result.now (omega (arith, c.if-index-len.false, c.len.ensures, c.args.times.now.ok.0)) c.index.ensures in
    sym (ap (λ (o : Option ℕ). unwrap_or o 0) (there ∙ c.in-None.is))

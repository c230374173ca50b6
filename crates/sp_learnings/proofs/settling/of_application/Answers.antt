use Rattle.std.proofs.Common.{map, sym, ◌∙◌, true≢false, arith}
use Rattle.std.specs.Vec.{vec_len}
use Rattle.std.proofs.lemmas.Bool.{eq-eqb}
use Rattle.sp_term.specs.View.{name_of}
use Rattle.sp_fact.specs.GroundView.{symbol_of}
use Rattle.sp_learnings.proofs.Counts.{neither}
use Rattle.sp_learnings.proofs.settling.of_application.Goals as goal

pub returns-else-len-eq2 : goal.returns-else-len-eq2
returns-else-len-eq2 c =
    let ts = c.args.terms.now in
    sym
    (neither (map symbol_of c.args.symbols.now.items) c.args.time (name_of c.args.symbol.now) ts.items
    (λ e. true≢false (sym (eq-eqb (vec_len ts) 0 (omega (arith, e, ts.ok.0))) ∙ sym c.is_empty.ensures ∙ c.if-is_empty.false))
    (λ e. c.if-len-eq2.false (omega (arith, e, c.len.ensures, ts.ok.0))))

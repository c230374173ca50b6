use Rattle.std.proofs.Common.{option_map, sym, ap, ◌∙◌, arith}
use Rattle.sp_term.specs.View.{view_by}
use Rattle.sp_term.proofs.Resolved.{resolved_more, resolved_end}
use Rattle.sp_term.proofs.apply.+resolve.Goals as goal

pub resolve_all-loop-term-preserved : goal.resolve_all-loop-term-preserved
resolve_all-loop-term-preserved g t c =
    let f = g.F.Resolves in
    c.loop-term.invariant
    ∙ resolved_more f.from_of f.to_of (f.value_of c.args.values.now) c.deref-term-items.result.now c.loop-term.made.items c.push.new.self.items c.loop-term.term-index c.term-item.result c.in-Some.term
    c.loop-term-test.true c.term-item.is (sym c.in_ok-term.ensures ∙ ap (option_map (view_by f.to_of)) c.in-Some.is) c.in_ok-push.ensures.items

pub resolve_all-returns : goal.resolve_all-returns
resolve_all-returns g t c =
    let f = g.F.Resolves in
    sym
    (c.loop-term.invariant
    ∙ resolved_end f.from_of f.to_of (f.value_of c.args.values.now) c.deref-term-items.result.now c.loop-term.made.items c.loop-term.term-index (omega (arith, c.loop-term-test.false)))

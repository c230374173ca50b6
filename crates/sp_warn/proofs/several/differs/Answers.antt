use Rattle.std.proofs.Common.{not, sym, ap, ◌∙◌}
use Rattle.sp_warn.proofs.Namesakes.{differs_known, differs_not, knows_known, knows_new}
use Rattle.sp_warn.proofs.SameForms.{form_tests}
use Rattle.sp_warn.proofs.several.differs.Goals as goal

pub returns-in-Some-clause-differs : goal.returns-in-Some-clause-differs
returns-in-Some-clause-differs c before knows =
    let called = c.called_by-called in
    let first = c.in-Some.first in
    c.ne.ensures ∙ ap not (form_tests c.args.form first)
    ∙ differs_known c.args.firsts.now before knows c.args.form called.result called.ensures first (sym c.get.ensures.value ∙ sym c.copied.ensures ∙ c.in-Some.is)

pub returns-in-Some-clause-knows : goal.returns-in-Some-clause-knows
returns-in-Some-clause-knows c before knows =
    let called = c.called_by-called in
    knows_known c.args.firsts.now before knows c.args.form called.result called.ensures c.in-Some.first (sym c.get.ensures.value ∙ sym c.copied.ensures ∙ c.in-Some.is)

pub returns-in_ok-insert-in-None-clause-differs : goal.returns-in_ok-insert-in-None-clause-differs
returns-in_ok-insert-in-None-clause-differs c before knows =
    let called = c.called_by-called in
    differs_not c.args.firsts.now before knows c.args.form called.result called.ensures (sym c.get.ensures.value ∙ sym c.copied.ensures ∙ c.in-None.is)

pub returns-in_ok-insert-in-None-clause-knows : goal.returns-in_ok-insert-in-None-clause-knows
returns-in_ok-insert-in-None-clause-knows c before knows =
    let called = c.called_by-called in
    knows_new c.args.firsts.now before knows c.args.form called.result called.ensures c.insert.new.self (sym c.get.ensures.value ∙ sym c.copied.ensures ∙ c.in-None.is)
    c.in_ok-insert-in-None.ensures.updates

use Rattle.std.proofs.Common.{◌≡◌, ◌&&◌, Bool, IfOk, sym, ap, ◌∙◌, subst}
use Rattle.sp_read_parts.specs.Formulas.{formula}
use Rattle.sp_read_parts.specs.declared.written.ReadFormula.{ReadFormula}
use Rattle.sp_read_parts.proofs.Chains.{chain_seen}
use Rattle.sp_read_parts.proofs.Shown.{every_shown, some_shown}
use Rattle.sp_law_guard.specs.CheckedForm.{marks_fit}
use Rattle.sp_guard.specs.View.{innermost_first}
use Rattle.sp_guard.proofs.Joints.{fit_joined}
use Rattle.sp_guard.proofs.MarksFit.{fit_for_all, fit_for_some}
use Rattle.sp_guard.proofs.marks.+marks.Goals as goal
use Rattle.sp_guard.proofs.marks.+marks.Goals.{and_fit-then-fit, and_fit-else-fit}

pub and_fit-loop-part-preserved : goal.and_fit-loop-part-preserved
and_fit-loop-part-preserved t c o f so =
    let next = c.in_ok-next.next in
    let bs = innermost_first c.args.binders.now.items in
    let both : c.if-fit.fit ≡ c.loop-part.fit && next =
    elim c.if-fit.branch [ and_fit-then-fit w ↦ w.fit-is ∙ ap (λ (b : Bool). b && next) (sym w.if-fit.true) | and_fit-else-fit w ↦ w.fit-is ∙ w.if-fit.false ∙ ap (λ (b : Bool). b && next) (sym w.if-fit.false) ] in
    chain_seen o (marks_fit bs) (λ a b. a && b) (fit_joined bs o) f c.deref-part-items.result.now c.loop-part.part-index c.part-item.result c.loop-part.fit next c.if-fit.fit
    c.loop-part-test.true c.part-item.is (c.loop-part.invariant o f so) c.in_ok-next.ensures both

pub marks_fit-returns-in_ok-inner-in-ForAll : goal.marks_fit-returns-in_ok-inner-in-ForAll
marks_fit-returns-in_ok-inner-in-ForAll t c =
    let bs = c.args.binders.now.items in
    let inner = c.in_ok-inner-in-ForAll.inner.items in
    let body = c.in-ForAll.body in
    subst (λ (x : Bool). IfOk c.marks_fit-in-ForAll.result (λ b. b ≡ x))
    (ap (λ (g : ReadFormula). marks_fit (innermost_first inner) (formula g)) c.deref-in-ForAll.ensures
    ∙ fit_for_all bs c.in-ForAll.more.items inner (formula body.value) c.in_ok-inner-in-ForAll.ensures
    ∙ sym (ap (marks_fit (innermost_first bs)) (ap formula c.in-ForAll.is ∙ every_shown c.in-ForAll.more body)))
    c.marks_fit-in-ForAll.ensures

pub marks_fit-returns-in_ok-inner-in-ForSome : goal.marks_fit-returns-in_ok-inner-in-ForSome
marks_fit-returns-in_ok-inner-in-ForSome t c =
    let bs = c.args.binders.now.items in
    let inner = c.in_ok-inner-in-ForSome.inner.items in
    let body = c.in-ForSome.body in
    subst (λ (x : Bool). IfOk c.marks_fit-in-ForSome.result (λ b. b ≡ x))
    (ap (λ (g : ReadFormula). marks_fit (innermost_first inner) (formula g)) c.deref-in-ForSome.ensures
    ∙ fit_for_some bs c.in-ForSome.more.items inner (formula body.value) c.in_ok-inner-in-ForSome.ensures
    ∙ sym (ap (marks_fit (innermost_first bs)) (ap formula c.in-ForSome.is ∙ some_shown c.in-ForSome.more body)))
    c.marks_fit-in-ForSome.ensures

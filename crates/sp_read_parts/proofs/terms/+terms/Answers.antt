use Rattle.std.proofs.Common.{List, ap, ◌∙◌, arith}
use Rattle.sp_spec.specs.Term.{app}
use Rattle.sp_term.specs.declared.term.Term.{Term}
use Rattle.sp_read_parts.specs.declared.written.WrittenVariable.{WrittenVariable}
use Rattle.sp_read_parts.specs.Views as view
use Rattle.sp_read_parts.proofs.One.{terms}
use Rattle.sp_read_parts.proofs.Loops.{going_more, going_no_sign}
use Rattle.sp_read_parts.proofs.Nested.{angle_too_deep, applied_at, list_none, tuple_too_deep}
use Rattle.sp_read_parts.proofs.terms.+terms.Goals as goal

pub terms-loop-found-preserved : goal.terms-loop-found-preserved
terms-loop-found-preserved t c =
    let one = rw c.in-Some.is at c.in_ok-next.ensures in
    record {
      reads = rw c.in_ok-push_term.ensures (going_more terms (λ e. cc) c.loop-found.invariant.reads one.value c.in-Some-after-2.ensures.value);
      further = omega (arith, one.further, c.in-Some-after-2.ensures.further, c.loop-found.invariant.further);
    }

pub terms-returns-in-None-clause-value : goal.terms-returns-in-None-clause-value
terms-returns-in-None-clause-value t c =
    let one = rw c.in-Some.is at c.in_ok-next.ensures in
    going_no_sign terms c.loop-found.invariant.reads one.value c.in_default-after.ensures.value c.in-None.ensures.value

pub tuple-returns-in_default-deeper-clause-value : goal.tuple-returns-in_default-deeper-clause-value
tuple-returns-in_default-deeper-clause-value t c =
    let one = rw c.in-Some.is at c.in_ok-first.ensures in
    tuple_too_deep c.requires.closing one.value c.in-Some-after-2.ensures.value c.in_default-deeper.ensures

pub term-returns-in_default-deeper-clause-value : goal.term-returns-in_default-deeper-clause-value
term-returns-in_default-deeper-clause-value t c = angle_too_deep c.in-Some-after-2.ensures.value c.in_default-deeper.ensures

pub applied-returns-in-Some-after-clause-value : goal.applied-returns-in-Some-after-clause-value
applied-returns-in-Some-after-clause-value t c =
    applied_at c.requires.1.1.1 c.in-Some.ensures.0 c.in-Some.ensures.1 (list_none c.in-Some-after.ensures.value)
    (c.in_ok-made.ensures ∙ ap (λ (xs : List (Term WrittenVariable)). app c.args.symbol.now (view.terms xs)) c.new.ensures.items)

use Rattle.std.proofs.Common.{refl}
use Rattle.sp_read_parts.specs.Views.{term, terms}
use Rattle.sp_spec.specs.Constants.{once_after, in_term, in_terms}
use Rattle.sp_declared.proofs.ConstantSteps.{next}
use Rattle.sp_lines.specs.TextsView.{texts_of}
use Rattle.sp_warn.proofs.constants.+terms.Goals as goal

pub see_terms-loop-term-preserved : goal.see_terms-loop-term-preserved
see_terms-loop-term-preserved t c =
    next (λ x. in_term (term x)) (λ xs. in_terms (terms xs)) (λ x xs. refl) c.deref-term-items.result.now c.args.terms.now.items c.loop-term.term-index c.term-item.result
    (texts_of c.loop-term.seen) (texts_of c.see_term.new.seen) (once_after (texts_of c.args.seen.now) (in_terms (terms c.args.terms.now.items)))
    c.deref-term-items.ensures.value c.loop-term-test.true c.term-item.is c.in_ok-see_term.ensures c.loop-term.invariant

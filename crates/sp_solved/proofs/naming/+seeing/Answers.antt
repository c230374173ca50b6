use Rattle.std.proofs.Common.{map, refl}
use Rattle.sp_term.specs.View.{variable_of, view, view_all}
use Rattle.sp_spec_solved.specs.Naming.{once_after, in_term, in_terms}
use Rattle.sp_solved.proofs.Stepping.{next}
use Rattle.sp_solved.proofs.naming.+seeing.Goals as goal

pub see_terms-loop-term-preserved : goal.see_terms-loop-term-preserved
see_terms-loop-term-preserved t c =
    next (λ u. in_term (view u)) (λ us. in_terms (view_all us)) (λ u us. refl) c.deref-term-items.result.now c.args.terms.now.items c.loop-term.term-index c.term-item.result
    (map variable_of c.loop-term.seen.items) (map variable_of c.see_term.new.seen.items) (once_after (map variable_of c.args.seen.now.items) (in_terms (view_all c.args.terms.now.items)))
    c.deref-term-items.ensures.value c.loop-term-test.true c.term-item.is c.in_ok-see_term.ensures c.loop-term.invariant

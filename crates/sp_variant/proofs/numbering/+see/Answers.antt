use Rattle.std.proofs.Common.{refl}
use Rattle.sp_spec.specs.Term.{in_term, in_terms}
use Rattle.sp_spec.specs.Same.{same_variable}
use Rattle.sp_term.specs.View.{variable_of, view, view_all}
use Rattle.sp_variant.specs.View.{list_by}
use Rattle.sp_variant.specs.Adding.{added_after}
use Rattle.sp_variant.proofs.Adding.{added_next}
use Rattle.sp_variant.proofs.numbering.+see.Goals as goal

pub see_terms-loop-term-preserved : goal.see_terms-loop-term-preserved
see_terms-loop-term-preserved t c =
    added_next same_variable (λ u. in_term (view u)) (λ us. in_terms (view_all us)) (λ u us. refl) c.deref-term-items.result.now c.loop-term.term-index c.term-item.result
    (list_by variable_of c.loop-term.seen) (list_by variable_of c.see_term.new.seen) (added_after same_variable (list_by variable_of c.args.seen.now) (in_terms (view_all c.args.terms.now.items)))
    c.loop-term-test.true c.term-item.is c.in_ok-see_term.ensures c.loop-term.invariant

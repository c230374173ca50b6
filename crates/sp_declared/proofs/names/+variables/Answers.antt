use Rattle.std.proofs.Common.{◌++◌, append_assoc, map, refl}
use Rattle.sp_spec.specs.Term.{in_term, in_terms}
use Rattle.sp_read_parts.specs.Views as view
use Rattle.sp_declared.proofs.Stepping.{next}
use Rattle.sp_declared.proofs.names.+variables.Goals as goal

pub push_all_variables-loop-term-preserved : goal.push_all_variables-loop-term-preserved
push_all_variables-loop-term-preserved t c =
    next ◌++◌ append_assoc (λ u. in_term (view.term u)) (λ us. in_terms (view.terms us)) (λ u us. refl)
    c.deref-term-items.result.now c.args.terms.now.items c.loop-term.term-index c.term-item.result
    (map view.variable c.loop-term.found.items) (map view.variable c.push_variables.new.found.items) (map view.variable c.args.found.now.items ++ in_terms (view.terms c.args.terms.now.items))
    c.deref-term-items.ensures.value c.loop-term-test.true c.term-item.is c.in_ok-push_variables.ensures c.loop-term.invariant

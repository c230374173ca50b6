use Rattle.std.proofs.Common.{map, refl}
use Rattle.sp_term.specs.View.{variable_of}
use Rattle.sp_fact.specs.View.{fact_of}
use Rattle.sp_spec_solved.specs.Naming.{once_after, in_terms, in_facts}
use Rattle.sp_solved.proofs.Stepping.{next}
use Rattle.sp_solved.proofs.naming.see_facts.Goals as goal

pub loop-fact-preserved : goal.loop-fact-preserved
loop-fact-preserved c =
    next (λ f. in_terms (fact_of f).args) (λ fs. in_facts (map fact_of fs)) (λ f fs. refl) c.deref-fact-items.result.now c.args.facts.now.items c.loop-fact.fact-index c.fact-item.result
    (map variable_of c.loop-fact.seen.items) (map variable_of c.see_terms.new.seen.items) (once_after (map variable_of c.args.seen.now.items) (in_facts (map fact_of c.args.facts.now.items)))
    c.deref-fact-items.ensures.value c.loop-fact-test.true c.fact-item.is c.in_ok-see_terms.ensures c.loop-fact.invariant

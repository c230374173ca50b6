use Rattle.sp_term.specs.View.{name_of}
use Rattle.std.proofs.Common.{map, refl}
use Rattle.sp_read_parts.specs.Views.{facts_of, fact_of}
use Rattle.sp_spec.specs.Constants.{once_after, in_terms, in_facts}
use Rattle.sp_declared.proofs.ConstantSteps.{next}
use Rattle.sp_declared.proofs.public_names.see_facts.Goals as goal

pub loop-fact-preserved : goal.loop-fact-preserved
loop-fact-preserved c =
    next (λ f. in_terms (fact_of f).args) (λ fs. in_facts (facts_of fs)) (λ f fs. refl) c.deref-fact-items.result.now c.args.facts.now.items c.loop-fact.fact-index c.fact-item.result
    (map name_of c.loop-fact.seen.items) (map name_of c.see_terms.new.seen.items) (once_after (map name_of c.args.seen.now.items) (in_facts (facts_of c.args.facts.now.items)))
    c.deref-fact-items.ensures.value c.loop-fact-test.true c.fact-item.is c.in_ok-see_terms.ensures c.loop-fact.invariant

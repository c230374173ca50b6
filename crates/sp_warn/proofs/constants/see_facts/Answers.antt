use Rattle.std.proofs.Common.{refl}
use Rattle.sp_read_parts.specs.Views.{fact_of, facts_of}
use Rattle.sp_spec.specs.Constants.{once_after, in_terms, in_facts}
use Rattle.sp_declared.proofs.ConstantSteps.{next}
use Rattle.sp_lines.specs.TextsView.{texts_of}
use Rattle.sp_warn.proofs.constants.see_facts.Goals as goal

pub loop-fact-preserved : goal.loop-fact-preserved
loop-fact-preserved c =
    next (λ x. in_terms (fact_of x).args) (λ xs. in_facts (facts_of xs)) (λ x xs. refl) c.deref-fact-items.result.now c.args.facts.now.items c.loop-fact.fact-index c.fact-item.result
    (texts_of c.loop-fact.seen) (texts_of c.see_terms.new.seen) (once_after (texts_of c.args.seen.now) (in_facts (facts_of c.args.facts.now.items)))
    c.deref-fact-items.ensures.value c.loop-fact-test.true c.fact-item.is c.in_ok-see_terms.ensures c.loop-fact.invariant

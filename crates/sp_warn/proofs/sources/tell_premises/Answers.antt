use Rattle.std.proofs.Common.{◌∷◌, []}
use Rattle.sp_read_parts.specs.Views.{fact_of, facts_of}
use Rattle.sp_declared.proofs.Stepping.{next}
use Rattle.sp_warn.specs.FormView.{made_of}
use Rattle.sp_lines.specs.TextsView.{texts_of}
use Rattle.sp_warn.specs.Told.{lines_after}
use Rattle.sp_warn.specs.Warnings.{without_source}
use Rattle.sp_warn.specs.ToldLaws.{told_both}
use Rattle.sp_warn.proofs.Stepping.{premise_first}
use Rattle.sp_warn.proofs.sources.tell_premises.Goals as goal

pub loop-fact-preserved : goal.loop-fact-preserved
loop-fact-preserved c =
    let made = made_of c.args.made.now in
    let rule = c.args.rule.now in
    let premises = rule.facts.premises.items in
    next lines_after told_both (λ f. without_source made rule.name.now (fact_of f ∷ [])) (λ fs. without_source made rule.name.now (facts_of fs)) (λ f fs. premise_first made rule.name.now (fact_of f) (facts_of fs))
    c.deref-fact-items.result.now premises c.loop-fact.fact-index c.fact-item.result
    (texts_of c.loop-fact.lines) (texts_of c.tell_premise.new.lines) (lines_after (texts_of c.args.lines.now) (without_source made rule.name.now (facts_of premises)))
    c.deref-fact-items.ensures.value c.loop-fact-test.true c.fact-item.is c.in_ok-tell_premise.ensures c.loop-fact.invariant

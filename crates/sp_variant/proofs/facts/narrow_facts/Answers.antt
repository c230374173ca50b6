use Rattle.std.proofs.Common.{map, ap, ◌∙◌}
use Rattle.std.specs.List.{flat_map}
use Rattle.std.proofs.lemmas.List.{take_all}
use Rattle.sp_fact.specs.View.{fact_of, facts_of}
use Rattle.sp_fact.specs.GroundView.{equation_of}
use Rattle.sp_variant.specs.View.{chosen_of, list_by, way_by}
use Rattle.sp_variant.specs.Rows.{with_actions}
use Rattle.sp_variant.proofs.FactsRows.{facts_in_rows}
use Rattle.sp_variant.proofs.facts.narrow_facts.Goals as goal

pub returns : goal.returns
returns c =
    let es = map equation_of c.args.equations.now.items in
    let f = facts_of c.args.facts.now in
    c.loop-premises.invariant
    ∙ ap (λ rows. flat_map (with_actions es f) (map (way_by (list_by fact_of)) rows))
    (take_all c.loop-premises.premises-index c.deref-premises-items.result.now c.loop-premises-test.false ∙ c.deref-premises-items.ensures.value)
    ∙ ap (flat_map (with_actions es f)) c.in_ok-rows.ensures
    ∙ facts_in_rows es f (chosen_of c.args.chosen.now)

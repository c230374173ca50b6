use Rattle.std.proofs.Common.{length, sym, ap, ◌∙◌}
use Rattle.std.proofs.lemmas.List.{length-map}
use Rattle.sp_term.specs.View.{variable_of, view_all}
use Rattle.sp_fact.specs.View.{facts_of}
use Rattle.sp_variant.specs.View.{list_by}
use Rattle.sp_variant.proofs.Seen.{seen_behind, numbered_by}
use Rattle.sp_variant.proofs.numbering.numbered.Goals as goal

pub returns : goal.returns
returns c =
    let before = c.in_ok-variables.variables in
    let after = c.see_terms.new.seen in
    let facts = facts_of c.args.facts.now in
    let kept = view_all c.args.kept.now.items in
    let counted = c.len-count.ensures ∙ before.ok.0 ∙ sym (length-map before.items variable_of) ∙ ap length c.in_ok-variables.ensures in
    numbered_by facts kept (list_by variable_of after) c.len-count.result (facts_of c.in_ok-facts.facts) (view_all c.in_ok-kept.kept.items)
    (seen_behind facts kept (list_by variable_of before) (list_by variable_of after) c.in_ok-variables.ensures c.in_ok-see_terms.ensures)
    counted c.in_ok-facts.ensures c.in_ok-kept.ensures

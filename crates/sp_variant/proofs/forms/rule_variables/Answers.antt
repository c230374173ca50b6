use Rattle.std.proofs.Common.{◌++◌, append-nil, map, ap, sym, ◌∙◌}
use Rattle.std.proofs.lemmas.List.{drop_all}
use Rattle.sp_fact.specs.View.{declared_of}
use Rattle.sp_term.specs.View.{terms_of, view}
use Rattle.sp_variant.specs.View.{list_by}
use Rattle.sp_variant.proofs.Starts.{variables_from, variables_listed}
use Rattle.sp_variant.proofs.forms.rule_variables.Goals as goal

pub returns : goal.returns
returns c =
    let made = list_by view c.loop-place.made in
    ap terms_of
    (sym (append-nil made)
    ∙ sym (ap (λ xs. made ++ variables_from c.loop-place.place (map declared_of xs)) (drop_all c.loop-place.place c.deref-variable-items.result.now c.loop-place-test.false))
    ∙ c.loop-place.invariant)
    ∙ variables_listed 0 (map declared_of c.args.declared.now.items)

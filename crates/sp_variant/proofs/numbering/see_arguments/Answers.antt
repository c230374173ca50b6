use Rattle.std.proofs.Common.{map, refl, ap, ◌∙◌}
use Rattle.std.specs.List.{flat_map}
use Rattle.sp_spec.specs.Term.{in_terms}
use Rattle.sp_spec.specs.Same.{same_variable}
use Rattle.sp_term.specs.View.{variable_of}
use Rattle.sp_variant.specs.View.{list_by}
use Rattle.sp_variant.specs.Adding.{added_after}
use Rattle.sp_variant.proofs.Adding.{added_next}
use Rattle.sp_variant.proofs.numbering.see_arguments.Goals as goal

pub loop-one-preserved : goal.loop-one-preserved
loop-one-preserved g c =
    let t = g.T.HasArguments in
    let kind = t.kind_of in
    added_next same_variable (λ x. in_terms (t.args_of (kind x))) (λ xs. flat_map (λ x. in_terms (t.args_of x)) (map kind xs)) (λ x xs. refl)
    c.deref-one-items.result.now c.loop-one.one-index c.one-item.result (list_by variable_of c.loop-one.seen) (list_by variable_of c.see_terms.new.seen)
    (added_after same_variable (list_by variable_of c.args.seen.now) (flat_map (λ x. in_terms (t.args_of x)) (list_by kind c.args.all.now)))
    c.loop-one-test.true c.one-item.is (c.in_ok-see_terms.ensures ∙ ap (λ ts. added_after same_variable (list_by variable_of c.loop-one.seen) (in_terms ts)) c.arguments.ensures)
    c.loop-one.invariant

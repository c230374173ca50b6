use Rattle.std.proofs.Common.{◌≡◌, map, drop}
use Rattle.std.specs.List.{flat_map}
use Rattle.sp_spec.specs.Term.{in_terms}
use Rattle.sp_spec.specs.Same.{same_variable}
use Rattle.sp_term.specs.View.{variable_of}
use Rattle.sp_variant.specs.View.{list_by}
use Rattle.sp_variant.specs.Adding.{added_after}
use Rattle.sp_variant.proofs.numbering.see_arguments.Given as goal

abbrev pub invariant-loop-one : goal.invariant-loop-one
invariant-loop-one g l =
    let t = g.T.HasArguments in
    added_after same_variable (list_by variable_of l.seen) (flat_map (λ x. in_terms (t.args_of x)) (map t.kind_of (drop l.one-index l.one-items)))
    ≡ added_after same_variable (list_by variable_of l.fn.seen) (flat_map (λ x. in_terms (t.args_of x)) (list_by t.kind_of l.all))

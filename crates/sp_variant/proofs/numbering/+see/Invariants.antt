use Rattle.std.proofs.Common.{◌≡◌, drop}
use Rattle.sp_spec.specs.Term.{in_terms}
use Rattle.sp_spec.specs.Same.{same_variable}
use Rattle.sp_term.specs.View.{variable_of, view_all}
use Rattle.sp_variant.specs.View.{list_by}
use Rattle.sp_variant.specs.Adding.{added_after}
use Rattle.sp_variant.proofs.numbering.+see.Given as goal

abbrev pub invariant-see_terms-loop-term : goal.invariant-see_terms-loop-term
invariant-see_terms-loop-term l =
    added_after same_variable (list_by variable_of l.seen) (in_terms (view_all (drop l.term-index l.term-items)))
    ≡ added_after same_variable (list_by variable_of l.fn.seen) (in_terms (view_all l.terms.items))

use Rattle.std.proofs.Common.{◌≡◌, map, drop}
use Rattle.sp_term.specs.View.{variable_of, view_all}
use Rattle.sp_spec_solved.specs.Naming.{once_after, in_terms}
use Rattle.sp_solved.proofs.naming.+seeing.Given as goal

abbrev pub invariant-see_terms-loop-term : goal.invariant-see_terms-loop-term
invariant-see_terms-loop-term l =
    once_after (map variable_of l.seen.items) (in_terms (view_all (drop l.term-index l.terms.items)))
    ≡ once_after (map variable_of l.fn.seen.items) (in_terms (view_all l.terms.items))

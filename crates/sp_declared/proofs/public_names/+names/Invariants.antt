use Rattle.std.proofs.Common.{◌≡◌, map, drop}
use Rattle.sp_term.specs.View.{name_of}
use Rattle.sp_read_parts.specs.Views.{terms}
use Rattle.sp_spec.specs.Constants.{once_after, in_terms}
use Rattle.sp_declared.proofs.public_names.+names.Given as goal

abbrev pub invariant-see_terms-loop-term : goal.invariant-see_terms-loop-term
invariant-see_terms-loop-term l =
    once_after (map name_of l.seen.items) (in_terms (terms (drop l.term-index l.terms.items)))
    ≡ once_after (map name_of l.fn.seen.items) (in_terms (terms l.terms.items))

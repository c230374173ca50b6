use Rattle.std.proofs.Common.{◌≡◌, drop}
use Rattle.sp_read_parts.specs.Views.{terms}
use Rattle.sp_spec.specs.Constants.{once_after, in_terms}
use Rattle.sp_lines.specs.TextsView.{texts_of}
use Rattle.sp_warn.proofs.constants.+terms.Given as goal

abbrev pub invariant-see_terms-loop-term : goal.invariant-see_terms-loop-term
invariant-see_terms-loop-term l =
    once_after (texts_of l.seen) (in_terms (terms (drop l.term-index l.terms.items))) ≡ once_after (texts_of l.fn.seen) (in_terms (terms l.terms.items))

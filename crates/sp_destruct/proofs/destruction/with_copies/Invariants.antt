use Rattle.std.proofs.Common.{◌≡◌, take}
use Rattle.sp_spec.specs.Term.{joined}
use Rattle.sp_term.specs.View.{view_all}
use Rattle.sp_destruct.proofs.destruction.with_copies.Given as goal

abbrev pub invariant-loop-term : goal.invariant-loop-term
invariant-loop-term l = view_all l.terms.items ≡ joined (view_all l.fn.terms.items) (view_all (take l.term-index l.others))

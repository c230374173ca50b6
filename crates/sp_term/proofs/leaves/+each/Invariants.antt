use Rattle.std.proofs.Common.{◌≡◌, drop}
use Rattle.sp_spec.specs.Term.{each_variables}
use Rattle.sp_term.specs.View.{view_all_by}
use Rattle.sp_term.proofs.leaves.+each.Given as goal

abbrev pub invariant-each_leaf_of_all-loop-term : goal.invariant-each_leaf_of_all-loop-term
invariant-each_leaf_of_all-loop-term g l =
    let passes = g.T.Tests.test_of l.test in
    let leaf_of = g.T.Tests.leaf_of in
    each_variables passes (view_all_by leaf_of l.terms.items) ≡ each_variables passes (view_all_by leaf_of (drop l.term-index l.term-items))

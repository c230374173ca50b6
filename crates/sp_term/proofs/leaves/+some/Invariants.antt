use Rattle.std.proofs.Common.{◌≡◌, drop}
use Rattle.sp_spec.specs.Term.{some_variables}
use Rattle.sp_term.specs.View.{view_all_by}
use Rattle.sp_term.proofs.leaves.+some.Given as goal

abbrev pub invariant-some_leaf_of_one-loop-term : goal.invariant-some_leaf_of_one-loop-term
invariant-some_leaf_of_one-loop-term g l =
    let passes = g.T.Tests.test_of l.test in
    let leaf_of = g.T.Tests.leaf_of in
    some_variables passes (view_all_by leaf_of l.terms.items) ≡ some_variables passes (view_all_by leaf_of (drop l.term-index l.term-items))

use Rattle.std.proofs.Common.{◌≡◌, drop}
use Rattle.sp_term.specs.View.{name_of, view_all_by}
use Rattle.sp_moves_decide.specs.Sought.{terms_name}
use Rattle.sp_moves_decide.proofs.occurring.+names.Given as goal

abbrev pub invariant-terms_name-loop-term : goal.invariant-terms_name-loop-term
invariant-terms_name-loop-term g l =
    terms_name (name_of l.name) (view_all_by g.L.Leaf.leaf_of l.terms.items)
    ≡ terms_name (name_of l.name) (view_all_by g.L.Leaf.leaf_of (drop l.term-index l.term-items))

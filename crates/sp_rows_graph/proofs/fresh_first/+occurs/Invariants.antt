use Rattle.std.proofs.Common.{◌≡◌, drop}
use Rattle.sp_term.specs.View.{view, view_all}
use Rattle.sp_spec.specs.Same.{is_part_of_one}
use Rattle.sp_rows_graph.proofs.fresh_first.+occurs.Given as goal

abbrev pub invariant-have_term-loop-term : goal.invariant-have_term-loop-term
invariant-have_term-loop-term l = is_part_of_one (view l.sought) (view_all l.terms.items) ≡ is_part_of_one (view l.sought) (view_all (drop l.term-index l.term-items))

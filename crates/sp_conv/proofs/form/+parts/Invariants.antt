use Rattle.std.proofs.Common.{◌≡◌, drop}
use Rattle.sp_term.specs.View.{view, view_all}
use Rattle.sp_spec.specs.Same.{is_part_of_one}
use Rattle.sp_conv.proofs.form.+parts.Given as goal

abbrev pub invariant-one_has_part-loop-term : goal.invariant-one_has_part-loop-term
invariant-one_has_part-loop-term l = is_part_of_one (view l.part) (view_all l.terms.items) ≡ is_part_of_one (view l.part) (view_all (drop l.term-index l.term-items))

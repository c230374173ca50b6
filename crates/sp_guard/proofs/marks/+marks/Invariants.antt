use Rattle.std.proofs.Common.{◌≡◌, map, take}
use Rattle.sp_spec.specs.Formula.{Formula}
use Rattle.sp_read_parts.specs.Formulas.{Joint, chain, formula}
use Rattle.sp_law_guard.specs.CheckedForm.{marks_fit}
use Rattle.sp_guard.specs.View.{innermost_first}
use Rattle.sp_guard.proofs.marks.+marks.Given as goal

abbrev pub invariant-and_fit-loop-part : goal.invariant-and_fit-loop-part
invariant-and_fit-loop-part l = (o : Joint) (f : Formula) → l.so_far ≡ marks_fit (innermost_first l.binders.items) f → l.fit ≡ marks_fit (innermost_first l.binders.items) (chain o f (map formula (take l.part-index l.part-items)))

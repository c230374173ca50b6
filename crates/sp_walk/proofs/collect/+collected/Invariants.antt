use Rattle.std.proofs.Common.{◌≡◌, map, take}
use Rattle.sp_spec.specs.Formula.{Formula}
use Rattle.sp_read_parts.specs.Formulas.{Joint, chain, formula}
use Rattle.sp_walk.specs.Atoms.{collected}
use Rattle.sp_walk.specs.View.{innermost_first}
use Rattle.sp_walk.proofs.collect.+collected.Given as goal

abbrev pub invariant-collect_later-loop-part : goal.invariant-collect_later-loop-part
invariant-collect_later-loop-part g l =
    let by = g.C.Collects in
    let given = collected (by.gives l.by) (innermost_first l.binders.items) in
    (o : Joint) (before : by.Seen) (f : Formula) → by.seen_of l.fn.seen ≡ by.after before (given f)
    → by.seen_of l.seen ≡ by.after before (given (chain o f (map formula (take l.part-index l.part-items))))

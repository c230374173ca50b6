use Rattle.std.proofs.Common.{◌≡◌, map, take}
use Rattle.sp_spec.specs.Formula.{Formula}
use Rattle.sp_read_parts.specs.Formulas.{Joint, chain, formula}
use Rattle.sp_guard.specs.View.{innermost_first}
use Rattle.sp_guard.specs.Unguarded.{nothing_above, unguarded}
use Rattle.sp_guard.specs.FirstNamed.{name_of}
use Rattle.sp_guard.proofs.unguarded.+unguarded.Given as goal

abbrev pub invariant-or_unguarded_later-loop-part : goal.invariant-or_unguarded_later-loop-part
invariant-or_unguarded_later-loop-part l = (o : Joint) (f : Formula) → name_of l.fn.before ≡ unguarded (innermost_first l.binders.items) nothing_above f
    → name_of l.found ≡ unguarded (innermost_first l.binders.items) nothing_above (chain o f (map formula (take l.part-index l.part-items)))

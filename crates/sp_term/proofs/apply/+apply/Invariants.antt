use Rattle.std.proofs.Common.{◌≡◌, take, map}
use Rattle.sp_spec.specs.Term.{valued}
use Rattle.sp_term.specs.View.{view_by}
use Rattle.sp_term.proofs.apply.+apply.Given as goal

abbrev pub invariant-apply_all-loop-term : goal.invariant-apply_all-loop-term
invariant-apply_all-loop-term g l =
    map (view_by g.F.Assigns.to_of) l.made.items ≡ map (λ t. valued (g.F.Assigns.value_of l.values) (view_by g.F.Assigns.from_of t)) (take l.term-index l.term-items)

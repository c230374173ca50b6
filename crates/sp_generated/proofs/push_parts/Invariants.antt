use Rattle.std.proofs.Common.{◌-◌, ◌≡◌, ◌++◌, ◌≤◌}
use Rattle.sp_generated.specs.Theory.{parts}
use Rattle.sp_generated.proofs.push_parts.Given as goal

abbrev pub decreases-loop-made : goal.decreases-loop-made
decreases-loop-made l = l.n - l.made

abbrev pub invariant-loop-made : goal.invariant-loop-made
invariant-loop-made l = (l.made ≤ l.n) × (l.text.items ≡ l.fn.text.items ++ parts l.made)

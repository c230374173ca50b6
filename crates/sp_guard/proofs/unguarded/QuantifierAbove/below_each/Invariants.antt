use Rattle.std.proofs.Common.{◌≡◌, ◌+◌, ◌≤◌, drop, map}
use Rattle.sp_read_parts.specs.Views as view
use Rattle.sp_guard.specs.FirstNamed.{below_each, above_of}
use Rattle.sp_guard.proofs.unguarded.QuantifierAbove.below_each.Given as goal

abbrev pub invariant-loop-variable : goal.invariant-loop-variable
invariant-loop-variable l = record {
  exact : below_each (map view.variable l.variables.items) (above_of l.fn.self) ≡ below_each (map view.variable (drop l.variable-index l.variable-items)) (above_of l.above);
  some_more : l.above.of_some ≤ l.fn.self.of_some + l.variable-index;
  no_more : l.above.of_all ≤ l.fn.self.of_all;
}

use Rattle.std.proofs.Common.{◌≡◌}
use Rattle.sp_formula.proofs.shared.all_shared.Given as goal

abbrev pub invariant-loop-formula : goal.invariant-loop-formula
invariant-loop-formula l = l.made.items ≡ l.yielded

use Rattle.std.proofs.Common.{map}
use Rattle.sp_fact.specs.GroundView.{equation_of}
use Rattle.sp_conv.proofs.Searches.{NoneBetween}
use Rattle.sp_conv.proofs.check.first_behind.Given as goal

abbrev pub invariant-loop-behind : goal.invariant-loop-behind
invariant-loop-behind l = NoneBetween (map equation_of l.equations.items) l.place (equation_of l.first) l.behind

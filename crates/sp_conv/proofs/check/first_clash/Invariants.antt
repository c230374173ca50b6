use Rattle.std.proofs.Common.{map}
use Rattle.sp_fact.specs.GroundView.{equation_of}
use Rattle.sp_conv.proofs.Searches.{NoneClashBefore}
use Rattle.sp_conv.proofs.check.first_clash.Given as goal

abbrev pub invariant-loop-place : goal.invariant-loop-place
invariant-loop-place l = NoneClashBefore (map equation_of l.equations.items) l.place

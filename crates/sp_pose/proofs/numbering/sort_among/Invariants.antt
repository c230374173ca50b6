use Rattle.std.proofs.Common.{◌≡◌, drop, map}
use Rattle.sp_fact.specs.View.{declared_of}
use Rattle.sp_pose.specs.Numbering.{sort_among}
use Rattle.sp_pose.proofs.numbering.sort_among.Given as goal

abbrev pub invariant-loop-variable : goal.invariant-loop-variable
invariant-loop-variable l = sort_among l.name (map declared_of l.variables.items) ≡ sort_among l.name (map declared_of (drop l.variable-index l.variable-items))

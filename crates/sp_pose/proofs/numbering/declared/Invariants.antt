use Rattle.std.proofs.Common.{◌≡◌, take, map}
use Rattle.sp_read_parts.specs.Views as written
use Rattle.sp_declared.specs.View.{texts_of}
use Rattle.sp_pose.specs.Numbering.{declared_in}
use Rattle.sp_fact.specs.View.{declared_of}
use Rattle.sp_pose.proofs.numbering.declared.Given as goal

abbrev pub invariant-loop-text : goal.invariant-loop-text
invariant-loop-text l = map declared_of l.made.items ≡ map (declared_in (written.rule l.rule).facts) (texts_of (take l.text-index l.text-items))

use Rattle.std.proofs.Common.{◌≡◌, ◌-◌}
use Rattle.sp_spec_system.specs.MakingOne.{all_joined}
use Rattle.sp_merge.specs.JoiningView.{joining_of}
use Rattle.sp_merge.proofs.joining.all_joined.Given as goal

abbrev pub invariant-loop : goal.invariant-loop
invariant-loop l = all_joined l.turns (joining_of l.fn.joining) ≡ all_joined (l.turns - l.counter) (joining_of l.joining)

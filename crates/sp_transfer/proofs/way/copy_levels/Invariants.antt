use Rattle.std.proofs.Common.{◌≡◌, ◌++◌, drop, map}
use Rattle.sp_transfer.specs.Executing.{level_of}
use Rattle.sp_transfer.proofs.way.copy_levels.Given as goal

abbrev pub invariant-loop-level : goal.invariant-loop-level
invariant-loop-level l = map level_of l.made.items ++ map level_of (drop l.level-index l.levels) ≡ map level_of l.levels

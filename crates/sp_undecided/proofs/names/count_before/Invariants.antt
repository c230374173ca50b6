use Rattle.std.proofs.Common.{◌≡◌, ◌+◌, drop, map}
use Rattle.sp_term.specs.View.{name_of}
use Rattle.sp_undecided.specs.Placing.{count_before}
use Rattle.sp_undecided.proofs.names.count_before.Given as goal

abbrev pub invariant-loop-place : goal.invariant-loop-place
invariant-loop-place l = l.place + count_before (name_of l.name) (map name_of (drop l.place l.names.items)) ≡ count_before (name_of l.name) (map name_of l.names.items)

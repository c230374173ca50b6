use Rattle.std.proofs.Common.{◌≡◌, ◌-◌, drop, length, map}
use Rattle.sp_term.specs.View.{name_of}
use Rattle.sp_spec_proof.specs.Deciding.{sorted_by_bytes}
use Rattle.sp_undecided.proofs.names.sorted.Given as goal

abbrev pub invariant-loop-count : goal.invariant-loop-count
invariant-loop-count l = map name_of l.made.items ≡ sorted_by_bytes (map name_of (drop (length l.names.items - l.count) l.names.items))

use Rattle.std.proofs.Common.{◌≡◌, map, drop}
use Rattle.sp_term.specs.View.{variable_of}
use Rattle.sp_spec_solved.specs.Naming.{is_seen}
use Rattle.sp_solved.proofs.naming.is_seen.Given as goal

abbrev pub invariant-loop-other : goal.invariant-loop-other
invariant-loop-other l = is_seen (variable_of l.variable) (map variable_of l.seen.items) ≡ is_seen (variable_of l.variable) (map variable_of (drop l.other-index l.seen.items))

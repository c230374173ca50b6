use Rattle.std.proofs.Common.{◌≡◌, map, drop}
use Rattle.sp_spec.specs.Lists.{is_listed}
use Rattle.sp_term.specs.View.{name_of}
use Rattle.sp_moves_decide.proofs.same.is_listed.Given as goal

abbrev pub invariant-loop-other : goal.invariant-loop-other
invariant-loop-other l = is_listed (name_of l.name) (map name_of l.names.items) ≡ is_listed (name_of l.name) (map name_of (drop l.other-index l.names.items))

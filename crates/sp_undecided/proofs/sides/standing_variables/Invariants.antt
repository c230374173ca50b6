use Rattle.std.proofs.Common.{◌≡◌, ◌++◌, map}
use Rattle.std.specs.Prelude.{filter, flat_map}
use Rattle.sp_term.specs.View.{name_of}
use Rattle.sp_system.specs.SystemView.{system_of}
use Rattle.sp_moves.specs.View.{side_of}
use Rattle.sp_spec_formula.specs.Sides.{stands_there}
use Rattle.sp_spec_proof.specs.Deciding.{counted, sides_at}
use Rattle.sp_undecided.proofs.Counted.{from}
use Rattle.sp_undecided.proofs.sides.standing_variables.Given as goal

abbrev pub invariant-loop-number : goal.invariant-loop-number
invariant-loop-number l =
    let stands = stands_there (map name_of l.constants.items) (system_of l.system) in
    map side_of l.made.items ++ filter stands (flat_map sides_at (from l.number l.system.next)) ≡ filter stands (flat_map sides_at (counted 0 l.system.next))

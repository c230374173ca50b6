use Rattle.std.proofs.Common.{◌≡◌, ◌++◌, drop, map}
use Rattle.std.specs.Prelude.{filter}
use Rattle.sp_term.specs.View.{name_of}
use Rattle.sp_system.specs.SystemView.{system_of}
use Rattle.sp_spec_system.specs.Move.{constant_side}
use Rattle.sp_moves.specs.View.{side_of}
use Rattle.sp_spec_formula.specs.Sides.{stands_there}
use Rattle.sp_undecided.proofs.sides.put_names.Given as goal

abbrev pub invariant-loop-name : goal.invariant-loop-name
invariant-loop-name l =
    let stands = stands_there (map name_of l.constants.items) (system_of l.system) in
    map side_of l.sides.items ++ filter stands (map constant_side (map name_of (drop l.name-index l.name-items)))
    ≡ map side_of l.initial.sides.items ++ filter stands (map constant_side (map name_of l.names.items))
